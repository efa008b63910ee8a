-- A unit that is sent in segments (CCSDS 232.0-B, 4.1.3.2.2).
use Rattle.std.specs.Prelude.{ℕ, ◌+◌, ◌%◌, false, List, length, Option, Some, None, nat_lt, if◌then◌else◌}
use Rattle.tc_link.specs.declared.frame.Header.{Header}
use Rattle.tc_make.specs.Frames.{IsMadeFrame}
use Rattle.tc_edges.specs.Write.Parts.{piece_at, segment_at}
use Rattle.tc_make.specs.declared.parting.Parting.{Parting}
use Rattle.tc_make.specs.declared.fault.Reason.{Reason}
use Rattle.tc_make.specs.declared.fault.Reason.TheVariants.{BadScid, BadVcid, BadMap, BadSize, NoData, TooMuchData}

-- the header of the Type-AD frame at a place, whose N(S) is the sum, modulo 256, of the first frame's N(S) and the place
abbrev pub header_at : Parting → ℕ → Header
header_at p place = record { bypass = false; control = false; scid = p.scid; vcid = p.vcid; ns = (p.ns + place) % 256 }

-- `frame` is the frame for a unit's segment at a place, counted from 0
abbrev pub IsFrameAt : Parting → ℕ → List ℕ → Type 0
IsFrameAt p place frame = IsMadeFrame frame (header_at p place) (Some (segment_at p.map p.size place p.unit.now)) (piece_at p.size p.unit.now place)

-- the first of the reasons below why a unit isn't divided into segments, or `None` if none of them applies
abbrev pub parting_reason_of : Parting → Option Reason
parting_reason_of p =
    if nat_lt 1023 p.scid then Some BadScid
    else if nat_lt 63 p.vcid then Some BadVcid
    else if nat_lt 63 p.map then Some BadMap
    else if nat_lt p.size 1 then Some BadSize
    else if nat_lt 1018 p.size then Some BadSize
    else if nat_lt (length p.unit.now) 1 then Some NoData
    else if nat_lt 65542 (length p.unit.now) then Some TooMuchData
    else None
