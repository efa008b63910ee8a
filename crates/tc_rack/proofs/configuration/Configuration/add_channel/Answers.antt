use Rattle.tc_rack.proofs.Names.{◌≡◌, true, false, inl, inr, refl, is_some}
use Rattle.tc_rack.proofs.ApidEntries.{one-more-table}
use Rattle.tc_rack.proofs.Configurations.{there-already, not-there, one-more}
use Rattle.tc_rack.proofs.configuration.Configuration.add_channel.Goals as goal

pub returns-then-is_some-clause-reason : goal.returns-then-is_some-clause-reason
returns-then-is_some-clause-reason c =
    let found : is_some c.place_of.result ≡ true = cc in
    rw (← c.self.view_is) (inr (inl (there-already c.self.inside.channels.items c.args.settings.vcid c.place_of.result found (rw c.deref.ensures.value at c.place_of.ensures), refl)))

pub invariant_of-self-in-Ok : goal.invariant_of-self-in-Ok
invariant_of-self-in-Ok c =
    let none : is_some c.place_of.result ≡ false = cc in
    let new = not-there c.self.inside.channels.items c.args.settings.vcid c.place_of.result none (rw c.deref.ensures.value at c.place_of.ensures) in
    rw (c.in-Ok.ensures.items, c.push_reserved.ensures.items, c.reserve.ensures.items) (
      one-more c.self.inside.channels.items c.args.settings c.self.invariant.0 new c.in_ok-check.ensures,
      one-more-table c.self.inside.channels.items c.self.inside.apids.items c.self.invariant.1 c.args.settings c.apids_of-apids.result (rw c.deref-2.ensures at c.apids_of-apids.ensures.apids),
    )
