-- A record of whether frames that aren't checked end with a frame error control field.
use Rattle.std.specs.Prelude.{Bool, true, false, ℕ, List, Some, None, if◌then◌else◌}
use Rattle.tc_edges.specs.Fecf.FrameWithField.{taking_fault_of}
use Rattle.tc_text.specs.declared.line.Line.{Line}
use Rattle.tc_text.specs.declared.line.Line.TheVariants.{Frame}
use Rattle.tc_live.specs.declared.check.FrameCheck.{FrameCheck}
use Rattle.tc_live.specs.declared.check.FrameCheck.TheVariants.{Nothing}
use Rattle.tc_live.specs.declared.ends.FrameEnds.{FrameEnds}
use Rattle.tc_live.specs.declared.ends.FrameEnds.TheVariants.{EachWithField, OneWithout}

-- the flag that is set if the octets are one frame with the right field at its end
abbrev pub has_field : List ℕ → Bool
has_field octets = elim (taking_fault_of octets) [ None ↦ true | Some fault ↦ false ]

-- The record after one more frame. Once a frame ended without the field, the record stays `OneWithout`.
abbrev pub ends_after : FrameEnds → List ℕ → FrameEnds
ends_after OneWithout octets = OneWithout
ends_after _ octets = if has_field octets then EachWithField else OneWithout

-- The record after a line that was carried out. Only a frame changes it, and only if frames aren't checked.
abbrev pub ends_behind : FrameCheck → FrameEnds → Line → FrameEnds
ends_behind Nothing ends (Frame octets) = ends_after ends octets
ends_behind check ends line = ends
