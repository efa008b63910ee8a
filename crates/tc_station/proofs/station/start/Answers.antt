use Rattle.tc_station.proofs.Names.{◌≡◌, ◌≢◌, ◌≤◌, ◌∙◌, ap, sym, subst, arith, rules, All, AllPairs, common_steps, HaveIssued, vcids_of, map-id}
use Rattle.std.proofs.lemmas.Iterator.Adapters.{YieldsList-from_vec}
use Rattle.std.proofs.lemmas.Iterator.Consumers.{YieldsList-end}
use Rattle.tc_station.proofs.OwnedDesks.{have-end}
use Rattle.tc_station.proofs.VcidTable.{distinct-ids, small-ids}
use Rattle.tc_station.proofs.station.start.Goals as goal

pub loop-settings-preserved : goal.loop-settings-preserved
loop-settings-preserved g c =
    let i = c.loop-settings.invariant in
    let have : HaveIssued 0 c.push_reserved-in-loop-settings.new.self.items = have-end 0 c.loop-settings.desks.items c.push_reserved-in-loop-settings.new.self.items c.in-Ok.owned_desk c.push_reserved-in-loop-settings.ensures.items i.2 (search rules) in
    (grind (arith, common_steps), grind (arith, common_steps), have, grind (arith, common_steps), grind (arith, common_steps), grind (arith, common_steps), grind (arith, common_steps), grind (arith, common_steps))

pub new-requires-2 : goal.new-requires-2
new-requires-2 g c =
    let seen = YieldsList-end (YieldsList-from_vec c.args.list.items (search rules) (search rules)) c.loop-settings.yielded c.loop-settings.settings-iterator c.loop-settings.yielded_by c.next.result c.next.new.self c.in-None.is c.next.ensures.steps in
    let is : c.loop-settings.vcids.items ≡ vcids_of c.args.list.items = c.loop-settings.invariant.0 ∙ ap vcids_of (sym (map-id c.loop-settings.yielded) ∙ seen.0) in
    record {
      distinct = subst (AllPairs (λ x y. x ≢ y)) (sym is) (distinct-ids c.args.list.items c.requires.distinct);
      allowed = subst (All (λ v. v ≤ 63)) (sym is) (small-ids c.args.list.items c.requires.allowed);
    }
