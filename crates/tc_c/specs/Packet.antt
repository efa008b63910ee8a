-- Packets as records of numbers.
use Rattle.std.specs.Prelude.{ℕ, List, length, ◌==◌}
use Rattle.tc_link.specs.Bits.{bit}
use Rattle.tc_packet.specs.Bits.{word_at, bits}
use Rattle.tc_packet.specs.SpacePacket.{apid_of, is_telecommand}
use Rattle.tc_edges.specs.declared.write.packets.PacketHeader.{PacketHeader}
use Rattle.tc_c_base.specs.declared.status.Status.TheVariants.{Done, NoPacket}
use Rattle.tc_c.specs.declared.packets.PacketRecord.{PacketRecord}
use Rattle.tc_c_base.specs.Status.{code_of}

abbrev pub packet_record : List ℕ → PacketRecord
packet_record packet = record {
  status = code_of Done;
  length = length packet;
  apid = apid_of packet;
  count = bits (word_at packet 2) 0 14;
  telecommand = bit (is_telecommand packet);
  secondary = bit (bits (word_at packet 0) 11 1 == 1);
  sequence = bits (word_at packet 2) 14 2;
}

-- the record of a packet of `n` octets with this header
abbrev pub written_packet : ℕ → PacketHeader → PacketRecord
written_packet n header = record {
  status = code_of Done;
  length = n;
  apid = header.apid;
  count = header.count;
  telecommand = bit header.telecommand;
  secondary = bit header.secondary;
  sequence = header.flags;
}

abbrev pub no_packet : PacketRecord
no_packet = record { status = code_of NoPacket; length = 0; apid = 0; count = 0; telecommand = 0; secondary = 0; sequence = 0 }
