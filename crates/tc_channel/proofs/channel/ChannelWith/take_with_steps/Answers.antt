use Rattle.tc_channel.proofs.Names.{length, no_limits}
use Rattle.tc_channel.specs.Reply.{waiting_packets_within}
use Rattle.tc_channel.proofs.AtWork.{queue-count}
use Rattle.tc_queues.proofs.Counts.{found-once, found-twice}
use Rattle.tc_channel.proofs.Takes.{one-is-taken}
use Rattle.tc_channel.proofs.channel.ChannelWith.take_with_steps.Goals as goal

pub returns-in-None-clause-cost : goal.returns-in-None-clause-cost
returns-in-None-clause-cost g c = rw (← c.self.view_is) (found-once c.args.apid (length c.self.inside.channel_core.queues) (length c.self.inside.settings.queues) (g.C.Tick.taken c.args.steps.now) (g.C.Tick.taken c.queued.new.steps) (queue-count c.self.invariant) c.queued.ensures.cost)

pub returns-in-Some-eq0-clause-cost : goal.returns-in-Some-eq0-clause-cost
returns-in-Some-eq0-clause-cost g c = rw (← c.self.view_is) (found-once c.args.apid (length c.self.inside.channel_core.queues) (length c.self.inside.settings.queues) (g.C.Tick.taken c.args.steps.now) (g.C.Tick.taken c.queued.new.steps) (queue-count c.self.invariant) c.queued.ensures.cost)

pub returns-in_err-entry-clause-cost : goal.returns-in_err-entry-clause-cost
returns-in_err-entry-clause-cost g c = rw (← c.self.view_is) (found-once c.args.apid (length c.self.inside.channel_core.queues) (length c.self.inside.settings.queues) (g.C.Tick.taken c.args.steps.now) (g.C.Tick.taken c.queued.new.steps) (queue-count c.self.invariant) c.queued.ensures.cost)

pub unwrap-packet-requires : goal.unwrap-packet-requires
unwrap-packet-requires g c =
    one-is-taken _ c.take.result c.in-Some.field-0 (waiting_packets_within no_limits c.self.inside.settings (g.J.Journal.events c.self.inside.journal) c.args.apid) (rw c.in-Some.is at c.queued.ensures.count no_limits c.self.inside.settings (g.J.Journal.events c.self.inside.journal) c.self.invariant) c.in-Some.field-0-test.1
    (c.take.ensures.packet no_limits c.self.inside.settings (g.J.Journal.events c.self.inside.journal) c.self.invariant)

pub returns-clause-cost : goal.returns-clause-cost
returns-clause-cost g c = rw (← c.self.view_is) (found-twice c.args.apid (length c.self.inside.channel_core.queues) (length c.self.inside.settings.queues) (g.C.Tick.taken c.args.steps.now) (g.C.Tick.taken c.queued.new.steps) (g.C.Tick.taken c.take.new.steps) (queue-count c.self.invariant) c.queued.ensures.cost c.take.ensures.cost)
