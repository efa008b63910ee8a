use Rattle.tc_channel.proofs.Names.{no_limits}
use Rattle.tc_channel.proofs.channel.ChannelWith.units.Goals as goal

pub returns-clause-count : goal.returns-clause-count
returns-clause-count g c = rw (← c.self.view_is) (c.units.ensures.count no_limits c.self.inside.settings (g.J.Journal.events c.self.inside.journal) c.self.invariant)
