use Rattle.tc_channel.proofs.Names.{no_limits}
use Rattle.tc_channel.proofs.channel.ChannelWith.oldest.Goals as goal

pub returns-clause-packet : goal.returns-clause-packet
returns-clause-packet g c = rw (← c.self.view_is) (c.oldest.ensures.packet no_limits c.self.inside.settings (g.J.Journal.events c.self.inside.journal) c.self.invariant)
