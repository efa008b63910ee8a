-- The octets that are written from records of numbers, or the first reason why no octets are written. The reasons are
-- tried in the order below.
use Rattle.std.specs.Prelude.{ℕ, ◌+◌, ◌==◌, ◌||◌, List, length, Some, Result, Ok, Err, nat_lt, if◌then◌else◌}
use Rattle.tc_link.specs.declared.frame.Header.{Header}
use Rattle.tc_link.specs.declared.command.Command.{Command}
use Rattle.tc_link.specs.declared.command.Command.TheVariants.{Unlock, SetVr}
use Rattle.tc_edges.specs.declared.write.packets.PacketHeader.{PacketHeader}
use Rattle.tc_edges.specs.Write.Frames.{IsMadeFrame, header_later}
use Rattle.tc_edges.specs.Write.Parts.{segments_needed, piece_at, segment_at}
use Rattle.tc_c_base.specs.declared.status.Status.{Status}
use Rattle.tc_c_base.specs.declared.status.Status.TheVariants.{BadField, EmptyData, LongPacket, LongUnit, BadMap, BadSize, NoSegment, BadCommand}
use Rattle.tc_c.specs.declared.frames.HeaderRecord.{HeaderRecord}
use Rattle.tc_c.specs.declared.writing.PacketHeaderRecord.{PacketHeaderRecord}
use Rattle.tc_c.specs.Farm.{with_ok, flag_of}
use Rattle.tc_c.specs.Frame.{header_in}

-- the header that a record stands for, or `BadFlag` if one of the record's flags is neither 0 nor 1
abbrev pub packet_header_in : PacketHeaderRecord → Result PacketHeader Status
packet_header_in header =
    with_ok (flag_of header.telecommand) (λ telecommand.
    with_ok (flag_of header.secondary) (λ secondary.
    Ok (record { telecommand = telecommand; secondary = secondary; apid = header.apid; flags = header.sequence; count = header.count })))

-- the header of a packet with this packet data field, or the first reason why this packet can't be written
abbrev pub packet_allowed : List ℕ → PacketHeader → Result PacketHeader Status
packet_allowed field header =
    if nat_lt 2047 header.apid || (nat_lt 16383 header.count || nat_lt 3 header.flags) then Err BadField
    else if nat_lt (length field) 1 then Err EmptyData
    else if nat_lt 65536 (length field) then Err LongPacket
    else Ok header

abbrev pub packet_to_write : PacketHeaderRecord → List ℕ → Result PacketHeader Status
packet_to_write header field = with_ok (packet_header_in header) (packet_allowed field)

-- The header of the frame that carries the segment at a place of a unit, or the first reason why there is no such
-- frame. The header of the unit's first frame is given. It can't be a Type-C frame, because such a frame has no segment
-- header.
abbrev pub segment_allowed : ℕ → ℕ → ℕ → List ℕ → Header → Result Header Status
segment_allowed map size place unit header =
    if header.control || (nat_lt 1023 header.scid || nat_lt 63 header.vcid) then Err BadField
    else if nat_lt 63 map then Err BadMap
    else if nat_lt size 1 || nat_lt 1018 size then Err BadSize
    else if nat_lt (length unit) 1 then Err EmptyData
    else if nat_lt 65542 (length unit) then Err LongUnit
    else if nat_lt place (segments_needed size (length unit)) then Ok (header_later header place)
    else Err NoSegment

abbrev pub segment_to_write : HeaderRecord → ℕ → ℕ → ℕ → List ℕ → Result Header Status
segment_to_write header map size place unit = with_ok (header_in header) (segment_allowed map size place unit)

-- the frame that carries the segment at a place of a unit
abbrev pub IsSegmentFrame : List ℕ → Header → ℕ → ℕ → ℕ → List ℕ → Type 0
IsSegmentFrame frame header map size place unit = IsMadeFrame frame header (Some (segment_at map size place unit)) (piece_at size unit place)

-- the number of octets in the frame of this segment
abbrev pub segment_length : ℕ → ℕ → List ℕ → ℕ
segment_length size place unit = length (piece_at size unit place) + 6

-- the command whose kind has this number, or `BadCommand` if there is none (for Set V(R), `number` is the new V(R))
abbrev pub command_by : ℕ → ℕ → Result Command Status
command_by kind number = if kind == 3 then Ok Unlock else if kind == 4 then Ok (SetVr number) else Err BadCommand

abbrev pub command_to_write : ℕ → ℕ → ℕ → ℕ → Result Command Status
command_to_write scid vcid kind number = if nat_lt 1023 scid || nat_lt 63 vcid then Err BadField else command_by kind number
