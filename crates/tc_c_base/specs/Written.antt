-- The record of a call that writes octets into the caller's buffer.
use Rattle.std.specs.Prelude.{◌≡◌, ◌++◌, ℕ, List, length, drop}
use Rattle.tc_c_base.specs.Status.{code_of}
use Rattle.tc_c_base.specs.declared.status.Status.{Status}
use Rattle.tc_c_base.specs.declared.status.Status.TheVariants.{Done, NoRoom}
use Rattle.tc_c_base.specs.declared.buffer.WrittenRecord.{WrittenRecord}

-- the record of a call that wrote no octets, with this status and the length 0
abbrev pub no_octets : Status → WrittenRecord
no_octets fault = record { status = code_of fault; length = 0 }

-- the record of a call whose buffer is too short, because the call needs room for `needed` octets
abbrev pub too_short : ℕ → WrittenRecord
too_short needed = record { status = code_of NoRoom; length = needed }

-- the record of a call that took or wrote `count` octets
abbrev pub taken : ℕ → WrittenRecord
taken count = record { status = code_of Done; length = count }

-- the octets are at the front of a buffer, and the rest of the buffer is as it was
abbrev pub IsCopied : List ℕ → List ℕ → List ℕ → Type 0
IsCopied octets old new = new ≡ octets ++ drop (length octets) old
