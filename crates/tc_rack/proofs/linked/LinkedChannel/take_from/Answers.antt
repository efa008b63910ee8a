use Rattle.tc_rack.specs.declared.queue.QueueId.TheVariants.{Packets, Units}
use Rattle.tc_rack.proofs.Waiting.{one-less, packet-given, unit-given}
use Rattle.tc_rack.proofs.linked.LinkedChannel.take_from.Goals as goal

pub returns-in-Packets-clause-rest : goal.returns-in-Packets-clause-rest
returns-in-Packets-clause-rest c =
    rw c.in-Packets.is (one-less (Packets c.in-Packets.apid) _ _ _ (packet-given _ _ _ _ (rw c.in-Packets.is at c.requires) c.take.ensures.answer))

pub returns-in-Units-clause-rest : goal.returns-in-Units-clause-rest
returns-in-Units-clause-rest c =
    rw c.in-Units.is (one-less (Units c.in-Units.map) _ _ _ (unit-given _ _ _ _ (rw c.in-Units.is at c.requires) c.unit.ensures.answer))
