use Rattle.tc_fixed.specs.Limits.{limit_of}
use Rattle.tc_fixed.proofs.channel.FixedChannelWith.buffered.Goals as goal

pub returns-clause-count : goal.returns-clause-count
returns-clause-count g c = rw (← c.self.view_is) (c.buffered.ensures.count (limit_of c.self.inside.limits) c.self.inside.settings (g.N.Noted.noted c.self.inside.journal) c.self.invariant.rooms)
