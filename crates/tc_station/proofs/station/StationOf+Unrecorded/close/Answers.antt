use Rattle.tc_station.proofs.Names.{◌≡◌, ◌∙◌, get_or, sym, ap, rules, refl, slice_get-get_or, AreInReportedBalance}
use Rattle.tc_station.proofs.Ordered.{in-order, moved}
use Rattle.tc_station.proofs.station.StationOf+Unrecorded.close.Goals as goal

pub returns-then-are_in_reported_balance : goal.returns-then-are_in_reported_balance
returns-then-are_in_reported_balance c =
    let own : c.in-Ok.vcids.items ≡ c.args.self.vcids = search rules in
    let good = moved AreInReportedBalance _ _ _ _ _ _ (c.deref.ensures.value ∙ own) c.deref-in-Ok.ensures.value c.deref-in-Ok-2.ensures.value (c.if-are_in_reported_balance.ensures.0 (search rules)) in
    record {
      all = search (rules, ap (λ s. s.issued) c.self.view_is);
      balanced = λ place h at. (good place h at).0;
      reported = λ k d lt. (good k (get_or c.in-Ok.channels.items k d) (slice_get-get_or c.in-Ok.channels.items k d lt)).1;
      channels = in-order c.args.self.vcids c.in-Ok.channels.items (search rules) (λ place h at. (good place h at).0.0);
      fault = search rules;
    }

pub returns-else-are_in_reported_balance-clause-fault : goal.returns-else-are_in_reported_balance-clause-fault
returns-else-are_in_reported_balance-clause-fault c = (
  search (rules, ap (λ s. s.issued) c.self.view_is),
  refl,
  search rules,
  λ h.
      let own : c.in-Ok.vcids.items ≡ c.args.self.vcids = search rules in
      let e = c.if-are_in_reported_balance.ensures.1 (moved AreInReportedBalance _ _ _ _ _ _ (sym (c.deref.ensures.value ∙ own)) (sym c.deref-in-Ok.ensures.value) (sym c.deref-in-Ok-2.ensures.value) h) in
      absurd cc,
)
