use Rattle.tc_fixed.specs.Limits.{limit_of}
use Rattle.tc_channel.proofs.AtWork.{unit-count}
use Rattle.tc_fixed.proofs.channel.FixedChannelWith.oldest_unit_with_steps.Goals as goal

pub returns-clause-unit : goal.returns-clause-unit
returns-clause-unit g c = rw (← c.self.view_is) (c.oldest_unit.ensures.unit (limit_of c.self.inside.limits) c.self.inside.settings (g.N.Noted.noted c.self.inside.journal) c.self.invariant.rooms)

pub returns-clause-cost : goal.returns-clause-cost
returns-clause-cost g c = rw (← c.self.view_is, ← unit-count c.self.invariant.rooms) c.oldest_unit.ensures.cost
