-- The ending of frames, with or without a frame error control field.
use Rattle.std.specs.Prelude.{ℕ, List, length, Option, Some, None, nat_lt, if◌then◌else◌}
use Rattle.tc_edges.specs.Fecf.FrameWithField.{frame_with_field}
use Rattle.tc_make.specs.declared.ending.Ending.{Ending}
use Rattle.tc_make.specs.declared.ending.Ending.TheVariants.{DataField, ErrorControl}
use Rattle.tc_make.specs.declared.fault.Reason.{Reason}
use Rattle.tc_make.specs.declared.fault.Reason.TheVariants.{TooMuchData}

-- a frame with this ending
abbrev pub ended : Ending → List ℕ → List ℕ
ended DataField frame = frame
ended ErrorControl frame = frame_with_field frame

-- The reason why a frame can't have this ending, if there is one. The frame error control field takes two of the 1,024
-- octets that a frame may have.
abbrev pub ending_reason_of : Ending → List ℕ → Option Reason
ending_reason_of DataField frame = None
ending_reason_of ErrorControl frame = if nat_lt 1022 (length frame) then Some TooMuchData else None
