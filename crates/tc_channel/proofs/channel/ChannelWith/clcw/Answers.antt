use Rattle.tc_channel.proofs.Names.{clcw_within, no_limits}
use Rattle.tc_channel.proofs.channel.ChannelWith.clcw.Goals as goal

pub returns-clause-word : goal.returns-clause-word
unfolding clcw_within
returns-clause-word g c = rw (← c.self.view_is, ← c.report.ensures.report no_limits c.self.inside.settings (g.J.Journal.events c.self.inside.journal) c.self.invariant) c.clcw_word.ensures
