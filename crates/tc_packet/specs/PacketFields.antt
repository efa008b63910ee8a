-- The fields of a packet's primary header (CCSDS 133.0-B, 4.1.3).
use Rattle.std.specs.Prelude.{◌≡◌, ℕ, ◌==◌, List, map}
use Rattle.tc_packet.specs.Bits.{word_at, bits}
use Rattle.tc_packet.specs.SpacePacket.{apid_of, is_telecommand}
use Rattle.tc_packet.specs.declared.packet.Packet.{Packet}

-- the fields of a packet are those that its octets spell
pub record HasFields (p : Packet) : Type 0 where
  pub telecommand : p.telecommand ≡ is_telecommand p.octets.now
  pub secondary : p.secondary ≡ (bits (word_at p.octets.now 0) 11 1 == 1)
  pub apid : p.apid ≡ apid_of p.octets.now
  pub flags : p.flags ≡ bits (word_at p.octets.now 2) 14 2
  pub count : p.count ≡ bits (word_at p.octets.now 2) 0 14

abbrev pub octets_of : List Packet → List (List ℕ)
octets_of packets = map (λ p. p.octets.now) packets
