use Rattle.tc_station.proofs.Names.{◌∙◌, ap, sym, rules, heads_of, AtStation, IsPlace}
use Rattle.tc_station.proofs.Called.{call-at, called, head-kept, ids-kept, same-lock}
use Rattle.tc_station.proofs.Meetings.{as-call, at-place, channel-there, head-at, watcher-kept}
use Rattle.tc_station.proofs.station.StationOf.meet.Goals as goal

pub unreachable-requires : goal.unreachable-requires
unreachable-requires g c = absurd (channel-there c.args.self.now c.self.inside.vcids c.args.vcid c.args.watcher.now c.place_of.result (search rules) c.requires.watcher c.place_of.ensures.place (search rules))

pub invariant_of-operator : goal.invariant_of-operator
invariant_of-operator g c =
    ids-kept _ _ _ c.args.self.now _ _ _ _ _ _ _ c.operator.view_is c.operator.invariant c.requires.ours c.index_mut.ensures.value (as-call _ _ _ _ c.meet.ensures.meeting)

pub meet-requires : goal.meet-requires
meet-requires g c =
    let at : IsPlace c.args.self.now c.args.vcid c.in-Some.place = search rules in
    let lock = same-lock c.args.self.now _ _ _ _ _ _ _ _ _ _ _ c.operator.view_is c.operator.invariant c.requires.ours c.self.view_is c.self.invariant.1 at c.index_mut.ensures.value c.index-owned_desk.ensures in
    let knows = ap (λ (x : AtStation). heads_of x.desks) c.operator.view_is ∙ c.requires.knows in
    let known = head-at c.args.self.now _ c.in-Some.place _ c.args.watcher.now knows c.index_mut.ensures.value (at-place c.args.self.now c.in-Some.place c.args.vcid c.args.watcher.now at c.requires.watcher) in
    record { ours = lock ∙ sym c.desk.ensures.lock; board = known.1 }

pub returns : goal.returns
returns g c =
    let at : IsPlace c.args.self.now c.args.vcid c.in-Some.place = search rules in
    let call = as-call _ _ _ _ c.meet.ensures.meeting in
    let all = called _ _ _ c.args.self.now _ _ _ _ _ _ _ _ c.operator.view_is c.operator.invariant c.requires.ours at c.index_mut.ensures.value call in
    let here = call-at _ _ _ c.args.self.now _ _ _ _ _ _ _ _ c.operator.view_is c.operator.invariant c.requires.ours at c.index_mut.ensures.value call in
    let knows = ap (λ (x : AtStation). heads_of x.desks) c.operator.view_is ∙ c.requires.knows in
    let known = head-at c.args.self.now _ c.in-Some.place c.index_mut.result.now c.args.watcher.now knows c.index_mut.ensures.value (at-place c.args.self.now c.in-Some.place c.args.vcid c.args.watcher.now at c.requires.watcher) in
    let late = watcher-kept c.args.self.now c.in-Some.place c.index_mut.result.now c.meet.new.self c.meet.new.watcher known.0 (head-kept _ _ _ _ _ _ call) c.meet.ensures.meeting.met in
    record {
      met = (c.in-Some.place, at, record { there = c.index_mut.result.now; next = c.meet.new.self; was = here.was; named = here.named; meeting = c.meet.ensures.meeting; others = here.others; vcids = here.vcids });
      same = all.refused;
      ours = all.ours;
      knows = all.knows ∙ c.requires.knows;
      later = all.later;
      watcher = (late.0, (c.in-Some.place, at, late.1), late.2, late.3);
    }
