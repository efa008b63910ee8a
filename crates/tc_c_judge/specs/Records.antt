-- The records that calls return.
use Rattle.std.specs.Prelude.{ℕ, Bool}
use Rattle.tc_link.specs.Bits.{bit}
use Rattle.tc_c_base.specs.Status.{code_of}
use Rattle.tc_c_base.specs.declared.status.Status.{Status}
use Rattle.tc_c_base.specs.declared.status.Status.TheVariants.{Done}
use Rattle.tc_c_judge.specs.declared.records.FlagRecord.{FlagRecord}
use Rattle.tc_c_judge.specs.declared.records.VerdictRecord.{VerdictRecord}
use Rattle.tc_c_judge.specs.declared.records.WordRecord.{WordRecord}

-- the record of a call that is done, with a flag
abbrev pub flagged : Bool → FlagRecord
flagged flag = record { status = code_of Done; flag = bit flag }

-- the record of a call that is done, with the verdict that has this number
abbrev pub judged : ℕ → VerdictRecord
judged verdict = record { status = code_of Done; verdict = verdict }

-- the record of a call that fails with a status, for each kind of record
abbrev pub unflagged : Status → FlagRecord
unflagged fault = record { status = code_of fault; flag = 0 }

abbrev pub no_verdict : Status → VerdictRecord
no_verdict fault = record { status = code_of fault; verdict = 0 }

-- the record of a call that found a CLCW
abbrev pub word_found : ℕ → WordRecord
word_found word = record { status = code_of Done; word = word; found = 1 }

-- the record of a call that found no CLCW, or that fails with this status
abbrev pub no_word : Status → WordRecord
no_word status = record { status = code_of status; word = 0; found = 0 }
