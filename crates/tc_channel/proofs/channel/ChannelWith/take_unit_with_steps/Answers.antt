use Rattle.tc_channel.proofs.Names.{length, no_limits}
use Rattle.tc_channel.specs.Reply.{waiting_units_within}
use Rattle.tc_channel.proofs.AtWork.{unit-count}
use Rattle.tc_queues.proofs.Counts.{found-once, found-twice}
use Rattle.tc_channel.proofs.Takes.{one-is-taken}
use Rattle.tc_channel.proofs.channel.ChannelWith.take_unit_with_steps.Goals as goal

pub returns-in-None-clause-cost : goal.returns-in-None-clause-cost
returns-in-None-clause-cost g c = rw (← c.self.view_is) (found-once c.args.map (length c.self.inside.channel_core.units) (length c.self.inside.settings.maps) (g.C.Tick.taken c.args.steps.now) (g.C.Tick.taken c.units.new.steps) (unit-count c.self.invariant) c.units.ensures.cost)

pub returns-in-Some-eq0-clause-cost : goal.returns-in-Some-eq0-clause-cost
returns-in-Some-eq0-clause-cost g c = rw (← c.self.view_is) (found-once c.args.map (length c.self.inside.channel_core.units) (length c.self.inside.settings.maps) (g.C.Tick.taken c.args.steps.now) (g.C.Tick.taken c.units.new.steps) (unit-count c.self.invariant) c.units.ensures.cost)

pub returns-in_err-entry-clause-cost : goal.returns-in_err-entry-clause-cost
returns-in_err-entry-clause-cost g c = rw (← c.self.view_is) (found-once c.args.map (length c.self.inside.channel_core.units) (length c.self.inside.settings.maps) (g.C.Tick.taken c.args.steps.now) (g.C.Tick.taken c.units.new.steps) (unit-count c.self.invariant) c.units.ensures.cost)

pub unwrap-unit-requires : goal.unwrap-unit-requires
unwrap-unit-requires g c =
    one-is-taken _ c.take_unit.result c.in-Some.field-0 (waiting_units_within no_limits c.self.inside.settings (g.J.Journal.events c.self.inside.journal) c.args.map) (rw c.in-Some.is at c.units.ensures.count no_limits c.self.inside.settings (g.J.Journal.events c.self.inside.journal) c.self.invariant) c.in-Some.field-0-test.1
    (c.take_unit.ensures.unit no_limits c.self.inside.settings (g.J.Journal.events c.self.inside.journal) c.self.invariant)

pub returns-clause-cost : goal.returns-clause-cost
returns-clause-cost g c = rw (← c.self.view_is) (found-twice c.args.map (length c.self.inside.channel_core.units) (length c.self.inside.settings.maps) (g.C.Tick.taken c.args.steps.now) (g.C.Tick.taken c.units.new.steps) (g.C.Tick.taken c.take_unit.new.steps) (unit-count c.self.invariant) c.units.ensures.cost c.take_unit.ensures.cost)
