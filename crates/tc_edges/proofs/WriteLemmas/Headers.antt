-- Six octets and a packet data field are a packet with a given header, if the six octets spell the header, the version 0
-- and the length of the whole packet.
use Rattle.std.proofs.Common.{◌≡◌, ℕ, ◌+◌, ◌≤◌, List, [], ◌∷◌, ◌++◌, length, refl, arith}
use Rattle.tc_packet.specs.SpacePacket.{version_of, named_length}
use Rattle.tc_edges.specs.declared.write.packets.PacketHeader.{PacketHeader}
use Rattle.tc_edges.specs.Write.Packets.{IsPacketOf, packet_header_of}

pub packeted : (six field : List ℕ) (header : PacketHeader) → length six ≡ 6 → packet_header_of six ≡ header → version_of six ≡ 0
    → named_length six ≡ length field + 6 → 1 ≤ length field → length field ≤ 65536 → IsPacketOf (six ++ field) header field
packeted (a ∷ b ∷ c ∷ d ∷ e ∷ f ∷ []) field header six says version named least most = record {
  whole = record { least = omega arith; most = omega arith; version = version; named = omega arith };
  header_bits = says;
  rest = refl;
}
packeted _ field header six says version named least most = absurd (omega arith)
