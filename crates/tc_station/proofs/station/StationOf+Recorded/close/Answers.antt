use Rattle.tc_station.proofs.Names.{◌≡◌, ◌∙◌, sym, ap, rules, refl, AreInBalance}
use Rattle.tc_station.proofs.Ordered.{in-order, moved}
use Rattle.tc_station.proofs.station.StationOf+Recorded.close.Goals as goal

pub returns-then-are_in_balance : goal.returns-then-are_in_balance
returns-then-are_in_balance c =
    let own : c.in-Ok.vcids.items ≡ c.args.self.vcids = search rules in
    let good = moved AreInBalance _ _ _ _ _ _ (c.deref.ensures.value ∙ own) c.deref-in-Ok.ensures.value c.deref-in-Ok-2.ensures.value (c.if-are_in_balance.ensures.0 (search rules)) in
    record {
      all = search (rules, ap (λ s. s.issued) c.self.view_is);
      balanced = good;
      channels = in-order c.args.self.vcids c.in-Ok.channels.items (search rules) (λ place h at. (good place h at).0);
      fault = search rules;
    }

pub returns-else-are_in_balance-clause-fault : goal.returns-else-are_in_balance-clause-fault
returns-else-are_in_balance-clause-fault c = (
  search (rules, ap (λ s. s.issued) c.self.view_is),
  refl,
  search rules,
  λ h.
      let own : c.in-Ok.vcids.items ≡ c.args.self.vcids = search rules in
      let e = c.if-are_in_balance.ensures.1 (moved AreInBalance _ _ _ _ _ _ (sym (c.deref.ensures.value ∙ own)) (sym c.deref-in-Ok.ensures.value) (sym c.deref-in-Ok-2.ensures.value) h) in
      absurd cc,
)
