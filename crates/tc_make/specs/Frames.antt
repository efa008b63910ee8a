-- The reasons why a frame isn't made (CCSDS 232.0-B, 4.1).
use Rattle.std.specs.Prelude.{ℕ, ◌+◌, Bool, false, List, length, Option, Some, None, nat_lt, if◌then◌else◌}
use Rattle.tc_link.specs.declared.frame.Header.{Header}
use Rattle.tc_packet.specs.declared.segment.Segment.{Segment}
pub use Rattle.tc_edges.specs.Write.Frames.{IsMadeFrame, IsCommandFrame}
use Rattle.tc_make.specs.declared.fault.Reason.{Reason}
use Rattle.tc_make.specs.declared.fault.Reason.TheVariants.{BadScid, BadVcid, BadMap, NoData, TooMuchData}

-- the number of octets of a data field that carries `n` octets
abbrev pub field_length : Option Segment → ℕ → ℕ
field_length None n = n
field_length (Some segment) n = n + 1

abbrev pub is_map_over : Option Segment → Bool
is_map_over None = false
is_map_over (Some segment) = nat_lt 63 segment.map

-- the first of the reasons below why a frame isn't made, or `None` if none of them applies
abbrev pub frame_reason_of : Header → Option Segment → List ℕ → Option Reason
frame_reason_of header segment octets =
    if nat_lt 1023 header.scid then Some BadScid
    else if nat_lt 63 header.vcid then Some BadVcid
    else if is_map_over segment then Some BadMap
    else if nat_lt (field_length segment (length octets)) 1 then Some NoData
    else if nat_lt 1019 (field_length segment (length octets)) then Some TooMuchData
    else None

abbrev pub command_reason_of : ℕ → ℕ → Option Reason
command_reason_of scid vcid =
    if nat_lt 1023 scid then Some BadScid
    else if nat_lt 63 vcid then Some BadVcid
    else None
