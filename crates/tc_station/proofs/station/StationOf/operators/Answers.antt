use Rattle.tc_station.proofs.Names.{◌≡◌, ◌++◌, ◌+◌, ◌∙◌, ℕ, subst, take, drop, length, replicate, sym, ap, rules, arith, common_steps, map-map, HasMadeNothing, IsOurs, KnowsDesks, heads_of, locks_of, settings_of_desks, Roster, HaveIssued, vcids_of, fresh, issued_more}
use Rattle.tc_station.proofs.Called.{as-many, at_owned_desks}
use Rattle.tc_station.proofs.OwnedDesks.{arrival-new, have-more, heads-more, issued-all, issued-fresh, locks-more, more-issued, settings-more, written-owned_desks}
use Rattle.tc_station.proofs.station.StationOf.operators.Goals as goal

pub returns : goal.returns
returns g c =
    let old = c.self.inside.desks in
    let one = old.ok.0 in
    let is : c.issue.new.owned_desks ≡ issued_more c.args.n old.items = c.in-Ok.ensures.issued ∙ ap (issued_more c.args.n) c.deref_mut.ensures.value in
    let owned_desks = take old.len (c.issue.new.owned_desks ++ drop (length c.issue.new.owned_desks) old.items) in
    let now = written-owned_desks old.len c.args.n old.items c.issue.new.owned_desks is (omega (arith, one)) in
    let ids = ap (λ l. vcids_of (settings_of_desks l)) c.deref_mut.ensures.value ∙ (c.self.invariant.1 ∙ sym c.as_slice.ensures) in
    let sum : c.in-Some.issued ≡ c.self.inside.issued + c.args.n = search rules in
    let station : Roster = at_owned_desks c.self.inside.scid c.self.inside.vcids c.in-Some.issued owned_desks in
    record {
      fresh = issued-fresh c.args.n c.as_slice.result.now c.deref_mut.result.now c.in-Ok.operators.items (as-many c.as_slice.result.now c.deref_mut.result.now ids) c.in-Ok.ensures.operators
          ∙ ap (λ l. replicate c.args.n (fresh l)) (c.as_slice.ensures ∙ ap (λ (r : Roster). r.vcids) c.self.view_is);
      new = issued-all HasMadeNothing _ _ _ c.in-Ok.ensures.operators (arrival-new c.deref_mut.result.now);
      ours = issued-all (IsOurs station) _ _ _ c.in-Ok.ensures.operators
          (c.as_slice.ensures, map-map _ _ c.deref_mut.result.now ∙ (ap locks_of c.deref_mut.ensures.value ∙ sym (ap locks_of now ∙ locks-more c.args.n old.items)));
      heads = issued-all (KnowsDesks station) _ _ _ c.in-Ok.ensures.operators (map-map _ _ c.deref_mut.result.now ∙ (ap heads_of c.deref_mut.ensures.value ∙ sym (ap heads_of now ∙ heads-more c.args.n old.items)));
      issued = more-issued c.args.self.now c.self.inside.scid c.self.inside.issued c.args.n c.in-Some.issued c.self.inside.vcids old.items _ c.self.view_is now sum;
      many = first_of (search rules, grind (arith, common_steps));
      refused = first_of (search rules, grind (arith, common_steps));
    }

pub invariant_of-self-2 : goal.invariant_of-self-2
invariant_of-self-2 g c =
    let old = c.self.inside.desks in
    let one = old.ok.0 in
    let next = issued_more c.args.n old.items in
    let is : c.issue.new.owned_desks ≡ next = c.in-Ok.ensures.issued ∙ ap (issued_more c.args.n) c.deref_mut.ensures.value in
    let now = written-owned_desks old.len c.args.n old.items c.issue.new.owned_desks is (omega (arith, one)) in
    let sum : c.in-Some.issued ≡ c.self.inside.issued + c.args.n = search rules in
    let have : HaveIssued c.in-Some.issued next = subst (λ (k : ℕ). HaveIssued k next) (sym sum) (have-more c.args.n c.self.inside.issued old.items c.self.invariant.2) in
    (c.self.invariant.0, ap (λ l. vcids_of (settings_of_desks l)) now ∙ (ap vcids_of (settings-more c.args.n old.items) ∙ c.self.invariant.1), subst (HaveIssued c.in-Some.issued) (sym now) have)
