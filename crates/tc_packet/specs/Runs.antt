-- The effect of one more field on an open run, and the octets of a unit, if there is one.
use Rattle.std.specs.Prelude.{ℕ, List, Option, Some, None}
use Rattle.std.specs.Global.{Vec}
use Rattle.tc_packet.specs.declared.segment.Part.{Part}
use Rattle.tc_packet.specs.declared.segment.Part.TheVariants.{First, Continuing, Last, Unsegmented}
use Rattle.tc_packet.specs.Reassembly.{bounded, extended}

abbrev pub next_run : Part → Option (List ℕ) → List ℕ → Option (List ℕ)
next_run First run body = bounded body
next_run Continuing run body = extended run body
next_run Last run body = None
next_run Unsegmented run body = None

abbrev pub octets_in : Option (Vec ℕ) → Option (List ℕ)
octets_in None = None
octets_in (Some v) = Some v.items
