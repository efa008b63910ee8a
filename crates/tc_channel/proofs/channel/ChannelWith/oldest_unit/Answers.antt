use Rattle.tc_channel.proofs.Names.{no_limits}
use Rattle.tc_channel.proofs.channel.ChannelWith.oldest_unit.Goals as goal

pub returns-clause-unit : goal.returns-clause-unit
returns-clause-unit g c = rw (← c.self.view_is) (c.oldest_unit.ensures.unit no_limits c.self.inside.settings (g.J.Journal.events c.self.inside.journal) c.self.invariant)
