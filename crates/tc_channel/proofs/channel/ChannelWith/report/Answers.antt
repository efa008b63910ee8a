use Rattle.tc_channel.proofs.Names.{subst, no_limits}
use Rattle.tc_channel.specs.Journal.{History}
use Rattle.tc_channel.specs.Era.{CountsUpInItsEra}
use Rattle.tc_channel.proofs.Eras.{era-law}
use Rattle.tc_channel.proofs.channel.ChannelWith.report.Goals as goal

pub returns-clause-era : goal.returns-clause-era
returns-clause-era g c =
    subst (λ (h : History). CountsUpInItsEra h.settings h.journal) c.self.view_is (era-law no_limits c.self.inside.settings (g.J.Journal.events c.self.inside.journal) c.self.invariant.holds.allowed c.self.invariant.holds.lawful)

pub returns-clause-report : goal.returns-clause-report
returns-clause-report g c = rw (← c.self.view_is) (c.report.ensures.report no_limits c.self.inside.settings (g.J.Journal.events c.self.inside.journal) c.self.invariant)
