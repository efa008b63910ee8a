use Rattle.tc_packet.proofs.Cuts.{cut-next, cut-end}
use Rattle.tc_packet.proofs.cutting.next_packet.Goals as goal

pub returns-in-None-clause-no_packets : goal.returns-in-None-clause-no_packets
returns-in-None-clause-no_packets c = (cut-end c.args.unit.now c.in-None.ensures.none).0

pub returns-in-None-clause-all_rest : goal.returns-in-None-clause-all_rest
returns-in-None-clause-all_rest c = (cut-end c.args.unit.now c.in-None.ensures.none).1

pub returns-in-Some-clause-packets : goal.returns-in-Some-clause-packets
returns-in-Some-clause-packets c = rw c.split_at.ensures.back (cut-next c.args.unit.now c.in-Some.packet.octets.now c.in-Some.ensures.packet c.in-Some.ensures.front).0

pub returns-in-Some-clause-rest : goal.returns-in-Some-clause-rest
returns-in-Some-clause-rest c = rw c.split_at.ensures.back (cut-next c.args.unit.now c.in-Some.packet.octets.now c.in-Some.ensures.packet c.in-Some.ensures.front).1
