use Rattle.tc_channel.specs.Reply.{clcw_within}
use Rattle.tc_fixed.specs.Limits.{limit_of}
use Rattle.tc_fixed.proofs.channel.FixedChannelWith.clcw.Goals as goal

pub returns-clause-word : goal.returns-clause-word
unfolding clcw_within
returns-clause-word g c = rw (← c.self.view_is, ← c.report.ensures.report (limit_of c.self.inside.limits) c.self.inside.settings (g.N.Noted.noted c.self.inside.journal) c.self.invariant.rooms) c.clcw_word.ensures
