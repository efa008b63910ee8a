-- Packets that are written (CCSDS 133.0-B, 4.1).
use Rattle.std.specs.Prelude.{◌≡◌, ℕ, ◌==◌, List, drop}
use Rattle.tc_packet.specs.Bits.{word_at, bits}
use Rattle.tc_packet.specs.SpacePacket.{IsPacket, apid_of, is_telecommand}
use Rattle.tc_edges.specs.declared.write.packets.PacketHeader.{PacketHeader}

-- the fields that the bits of a packet's primary header spell, apart from its version and its length
abbrev pub packet_header_of : List ℕ → PacketHeader
packet_header_of packet = record {
  telecommand = is_telecommand packet;
  secondary = bits (word_at packet 0) 11 1 == 1;
  apid = apid_of packet;
  flags = bits (word_at packet 2) 14 2;
  count = bits (word_at packet 2) 0 14;
}

-- the octets are a packet with this header and this packet data field
pub record IsPacketOf (packet : List ℕ) (header : PacketHeader) (field : List ℕ) : Type 0 where
  pub whole : IsPacket packet
  pub header_bits : packet_header_of packet ≡ header
  pub rest : drop 6 packet ≡ field
