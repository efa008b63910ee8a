use Rattle.std.proofs.Common.{subst}
use Rattle.tc_channel.specs.Era.{CountsUpInItsEraWithin}
use Rattle.tc_channel.proofs.Eras.{era-law}
use Rattle.tc_fixed.specs.History.{LimitedHistory}
use Rattle.tc_fixed.specs.Limits.{limit_of}
use Rattle.tc_fixed.proofs.channel.FixedChannelWith.report.Goals as goal

pub returns-clause-report : goal.returns-clause-report
returns-clause-report g c = rw (← c.self.view_is) (c.report.ensures.report (limit_of c.self.inside.limits) c.self.inside.settings (g.N.Noted.noted c.self.inside.journal) c.self.invariant.rooms)

pub returns-clause-era : goal.returns-clause-era
returns-clause-era g c =
    subst (λ (h : LimitedHistory). CountsUpInItsEraWithin (limit_of h.limits) h.settings h.journal) c.self.view_is
    (era-law (limit_of c.self.inside.limits) c.self.inside.settings (g.N.Noted.noted c.self.inside.journal) c.self.invariant.rooms.holds.allowed c.self.invariant.rooms.holds.lawful)
