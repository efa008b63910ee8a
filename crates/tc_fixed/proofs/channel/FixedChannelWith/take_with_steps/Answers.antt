use Rattle.std.proofs.Common.{Ok, length, refl}
use Rattle.tc_channel.specs.Reply.{waiting_packets_within}
use Rattle.tc_fixed.specs.Limits.{limit_of}
use Rattle.tc_fixed.specs.Taking.{packet_fault_of}
use Rattle.tc_fixed.proofs.Taken.{fault-answered, packet-says}
use Rattle.tc_channel.proofs.AtWork.{queue-count}
use Rattle.tc_fixed.proofs.channel.FixedChannelWith.take_with_steps.Goals as goal

pub returns-in_err-count-clause-no_queue : goal.returns-in_err-count-clause-no_queue
returns-in_err-count-clause-no_queue g c = rw (← c.self.view_is) (packet-says (length c.args.into.now) (waiting_packets_within (limit_of c.self.inside.limits) c.self.inside.settings (g.N.Noted.noted c.self.inside.journal) c.args.apid) c.copy_packet.result c.from_residual.result (c.copy_packet.ensures.count (limit_of c.self.inside.limits) c.self.inside.settings (g.N.Noted.noted c.self.inside.journal) c.self.invariant.rooms) (fault-answered packet_fault_of c.copy_packet.result _ c.from_residual.result c.in_err-count.was c.from_residual.ensures.1)).no_queue

pub returns-clause-no_queue : goal.returns-clause-no_queue
returns-clause-no_queue g c = rw (← c.self.view_is) (packet-says (length c.args.into.now) (waiting_packets_within (limit_of c.self.inside.limits) c.self.inside.settings (g.N.Noted.noted c.self.inside.journal) c.args.apid) c.copy_packet.result (Ok c.in_ok-count.count) (c.copy_packet.ensures.count (limit_of c.self.inside.limits) c.self.inside.settings (g.N.Noted.noted c.self.inside.journal) c.self.invariant.rooms) (rw c.in_ok-count.was refl)).no_queue

pub returns-in_err-count-clause-empty : goal.returns-in_err-count-clause-empty
returns-in_err-count-clause-empty g c = rw (← c.self.view_is) (packet-says (length c.args.into.now) (waiting_packets_within (limit_of c.self.inside.limits) c.self.inside.settings (g.N.Noted.noted c.self.inside.journal) c.args.apid) c.copy_packet.result c.from_residual.result (c.copy_packet.ensures.count (limit_of c.self.inside.limits) c.self.inside.settings (g.N.Noted.noted c.self.inside.journal) c.self.invariant.rooms) (fault-answered packet_fault_of c.copy_packet.result _ c.from_residual.result c.in_err-count.was c.from_residual.ensures.1)).empty

pub returns-clause-empty : goal.returns-clause-empty
returns-clause-empty g c = rw (← c.self.view_is) (packet-says (length c.args.into.now) (waiting_packets_within (limit_of c.self.inside.limits) c.self.inside.settings (g.N.Noted.noted c.self.inside.journal) c.args.apid) c.copy_packet.result (Ok c.in_ok-count.count) (c.copy_packet.ensures.count (limit_of c.self.inside.limits) c.self.inside.settings (g.N.Noted.noted c.self.inside.journal) c.self.invariant.rooms) (rw c.in_ok-count.was refl)).empty

pub returns-in_err-count-clause-no_room : goal.returns-in_err-count-clause-no_room
returns-in_err-count-clause-no_room g c = rw (← c.self.view_is) (packet-says (length c.args.into.now) (waiting_packets_within (limit_of c.self.inside.limits) c.self.inside.settings (g.N.Noted.noted c.self.inside.journal) c.args.apid) c.copy_packet.result c.from_residual.result (c.copy_packet.ensures.count (limit_of c.self.inside.limits) c.self.inside.settings (g.N.Noted.noted c.self.inside.journal) c.self.invariant.rooms) (fault-answered packet_fault_of c.copy_packet.result _ c.from_residual.result c.in_err-count.was c.from_residual.ensures.1)).no_room

pub returns-clause-no_room : goal.returns-clause-no_room
returns-clause-no_room g c = rw (← c.self.view_is) (packet-says (length c.args.into.now) (waiting_packets_within (limit_of c.self.inside.limits) c.self.inside.settings (g.N.Noted.noted c.self.inside.journal) c.args.apid) c.copy_packet.result (Ok c.in_ok-count.count) (c.copy_packet.ensures.count (limit_of c.self.inside.limits) c.self.inside.settings (g.N.Noted.noted c.self.inside.journal) c.self.invariant.rooms) (rw c.in_ok-count.was refl)).no_room

pub returns-in_err-count-clause-once : goal.returns-in_err-count-clause-once
returns-in_err-count-clause-once g c = rw (← c.self.view_is, ← queue-count c.self.invariant.rooms) c.copy_packet.ensures.cost

pub returns-clause-once : goal.returns-clause-once
returns-clause-once g c = rw (← c.self.view_is, ← queue-count c.self.invariant.rooms) c.copy_packet.ensures.cost
