use Rattle.tc_station.proofs.Names.{◌<◌, ◌∙◌, ap, get_or, length, set, sym, rules, with_one_issued, arrival}
use Rattle.std.proofs.lemmas.List.Edits.{map_over_more}
use Rattle.tc_station.proofs.OwnedDesks.{arrival-step, arrives}
use Rattle.tc_station.proofs.operator.desk_operators.Goals as goal

pub loop-place-preserved : goal.loop-place-preserved
loop-place-preserved g c =
    let i = c.loop-place.invariant in
    let old = c.args.owned_desks.now in
    let here = c.index-owned_desks-place.result in
    let lt : c.loop-place.place < length old = search rules in
    let is = c.index-owned_desks-place.is in
    let read = get_or c.loop-place.owned_desks c.loop-place.place here in
    let one = arrives read c.operator.result c.operator.ensures.lock c.operator.ensures.seen c.operator.ensures.new c.operator.ensures.none in (
      ap (set c.loop-place.owned_desks c.loop-place.place) (c.operator.ensures.issued ∙ ap with_one_issued (sym is)) ∙ map_over_more with_one_issued old c.loop-place.owned_desks c.loop-place.place here lt i.0 is,
      arrival-step old c.loop-place.owned_desks c.loop-place.operators.items c.push_reserved.new.self.items c.loop-place.place here c.operator.result i.0 lt is (one ∙ ap arrival (sym is)) i.1 c.push_reserved.ensures.items,
      search rules,
    )
