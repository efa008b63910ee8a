use Rattle.tc_fixed.specs.Limits.{limit_of}
use Rattle.tc_channel.proofs.AtWork.{queue-count}
use Rattle.tc_fixed.proofs.channel.FixedChannelWith.oldest_with_steps.Goals as goal

pub returns-clause-packet : goal.returns-clause-packet
returns-clause-packet g c = rw (← c.self.view_is) (c.oldest.ensures.packet (limit_of c.self.inside.limits) c.self.inside.settings (g.N.Noted.noted c.self.inside.journal) c.self.invariant.rooms)

pub returns-clause-cost : goal.returns-clause-cost
returns-clause-cost g c = rw (← c.self.view_is, ← queue-count c.self.invariant.rooms) c.oldest.ensures.cost
