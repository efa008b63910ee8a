use Rattle.tc_station.proofs.Names.{◌∙◌, ap, sym, arith, heads_of, AtStation, Roster}
use Rattle.tc_station.proofs.Called.{call-at, called, gone-on, head-kept, heads-kept, ids-kept, ours-kept, refused, same-lock-at}
use Rattle.tc_station.proofs.Meetings.{desk-there, head-at, watcher-kept}
use Rattle.tc_station.proofs.station.StationOf.operate_met.Goals as goal

pub index-owned_desk-requires : goal.index-owned_desk-requires
index-owned_desk-requires g c =
    let inside = desk-there c.args.self.now c.self.inside.desks.items c.args.place c.args.watcher.now (ap (λ (x : Roster). x.heads) c.self.view_is) c.requires.watcher in
    omega (arith, inside, c.self.inside.desks.ok.0)

pub index_mut-requires : goal.index_mut-requires
index_mut-requires g c =
    let inside = desk-there c.args.self.now c.operator.inside.desks.items c.args.place c.args.watcher.now (ap (λ (x : AtStation). heads_of x.desks) c.operator.view_is ∙ c.requires.knows) c.requires.watcher in
    omega (arith, inside, c.operator.inside.desks.ok.0)

pub invariant_of-operator : goal.invariant_of-operator
invariant_of-operator g c = ids-kept _ _ _ c.args.self.now _ _ _ _ _ _ _ c.operator.view_is c.operator.invariant c.requires.ours c.index_mut.ensures.value c.operate_met.ensures.call.call

pub operate_met-requires : goal.operate_met-requires
operate_met-requires g c =
    let knows = ap (λ (x : AtStation). heads_of x.desks) c.operator.view_is ∙ c.requires.knows in
    let heads = ap (λ (x : Roster). x.heads) c.self.view_is in
    let w = c.requires.watcher in
    let inside = desk-there c.args.self.now _ c.args.place c.args.watcher.now knows w in
    let inside_owned = desk-there c.args.self.now _ c.args.place c.args.watcher.now heads w in
    let lock = same-lock-at c.args.self.now _ _ _ _ _ _ _ c.args.place _ _ c.operator.view_is c.requires.ours c.self.view_is inside inside_owned c.index_mut.ensures.value c.index-owned_desk.ensures in
    record { ours = lock ∙ sym c.desk.ensures.lock; board = (head-at c.args.self.now _ c.args.place _ c.args.watcher.now knows c.index_mut.ensures.value w).1 }

pub returns : goal.returns
returns g c =
    let call = c.operate_met.ensures.call.call in
    let is = c.index_mut.ensures.value in
    let knows = ap (λ (x : AtStation). heads_of x.desks) c.operator.view_is ∙ c.requires.knows in
    let known = head-at c.args.self.now _ c.args.place c.index_mut.result.now c.args.watcher.now knows is c.requires.watcher in
    record {
      call = λ vcid at. record { at = call-at _ _ _ c.args.self.now _ _ _ _ _ _ _ _ c.operator.view_is c.operator.invariant c.requires.ours at is call; met = c.operate_met.ensures.call.met };
      counted = λ vcid at. (called _ _ _ c.args.self.now _ _ _ _ _ _ _ _ c.operator.view_is c.operator.invariant c.requires.ours at is call).counted;
      refused = refused _ _ _ c.args.self.now _ _ _ _ _ _ _ c.operator.view_is c.operator.invariant c.requires.ours is call;
      ours = ours-kept _ _ _ c.args.self.now _ _ _ _ _ _ _ c.operator.view_is c.operator.invariant c.requires.ours is call;
      knows = heads-kept _ _ _ c.args.self.now _ _ _ _ _ _ _ c.operator.view_is c.operator.invariant c.requires.ours is call ∙ c.requires.knows;
      later = gone-on _ _ _ c.args.self.now _ _ _ _ _ _ _ c.operator.view_is c.operator.invariant c.requires.ours is call (desk-there c.args.self.now _ c.args.place c.args.watcher.now knows c.requires.watcher);
      watcher = watcher-kept c.args.self.now c.args.place c.index_mut.result.now c.operate_met.new.self c.operate_met.new.watcher known.0 (head-kept _ _ _ _ _ _ call) c.operate_met.ensures.call.met;
    }
