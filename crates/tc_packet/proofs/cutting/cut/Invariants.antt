use Rattle.std.proofs.Common.{◌≡◌, ◌++◌, length}
use Rattle.std.specs.List.{AllByRecursion}
use Rattle.tc_packet.specs.SpacePacket.{IsPacket, joined}
use Rattle.tc_packet.specs.PacketFields.{HasFields, octets_of}
use Rattle.tc_packet.proofs.cutting.cut.Given as goal

abbrev pub invariant-loop-packet : goal.invariant-loop-packet
invariant-loop-packet l = record {
  parts : joined (octets_of l.packets.items) ++ l.rest ≡ l.unit;
  each : AllByRecursion IsPacket (octets_of l.packets.items);
  fields : AllByRecursion HasFields l.packets.items;
}

abbrev pub decreases-loop-packet : goal.decreases-loop-packet
decreases-loop-packet l = length l.rest
