use Rattle.tc_fixed.specs.Limits.{limit_of}
use Rattle.tc_fixed.proofs.channel.FixedChannelWith.drop_oldest_unit.Goals as goal

pub returns-then-not-drop_unit-clause-waits : goal.returns-then-not-drop_unit-clause-waits
returns-then-not-drop_unit-clause-waits g c = rw (← c.self.view_is, ← c.if-not-drop_unit.true) (c.drop_unit.ensures.waits (limit_of c.self.inside.limits) c.self.inside.settings (g.N.Noted.noted c.self.inside.journal) c.self.invariant.rooms)
