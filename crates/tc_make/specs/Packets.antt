-- Telecommand packets that are made (CCSDS 133.0-B, 4.1).
use Rattle.std.specs.Prelude.{ℕ, true, false, List, length, Option, Some, None, nat_lt, if◌then◌else◌}
use Rattle.tc_edges.specs.declared.write.packets.PacketHeader.{PacketHeader}
use Rattle.tc_edges.specs.Write.Packets.{IsPacketOf}
use Rattle.tc_make.specs.declared.fault.Reason.{Reason}
use Rattle.tc_make.specs.declared.fault.Reason.TheVariants.{BadApid, BadCount, NoData, TooMuchData}

-- the header of an unsegmented telecommand packet of this application, with this count and without a secondary header
abbrev pub made_header : ℕ → ℕ → PacketHeader
made_header apid count = record { telecommand = true; secondary = false; apid = apid; flags = 3; count = count }

abbrev pub IsMadePacket : List ℕ → ℕ → ℕ → List ℕ → Type 0
IsMadePacket packet apid count octets = IsPacketOf packet (made_header apid count) octets

-- the first of the reasons below why a packet isn't made, or `None` if none of them applies
abbrev pub packet_reason_of : ℕ → ℕ → List ℕ → Option Reason
packet_reason_of apid count octets =
    if nat_lt 2047 apid then Some BadApid
    else if nat_lt 16383 count then Some BadCount
    else if nat_lt (length octets) 1 then Some NoData
    else if nat_lt 65536 (length octets) then Some TooMuchData
    else None
