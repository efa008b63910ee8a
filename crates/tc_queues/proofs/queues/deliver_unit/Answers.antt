use Rattle.tc_queues.proofs.Names.{length, boxed_slice_items, packets_of}
use Rattle.tc_packet.proofs.Sizes.{if-ok, on-err}
use Rattle.tc_queues.proofs.Counts.{looks-most, unit-more, cost-more, cost-more-err}
use Rattle.tc_queues.proofs.queues.deliver_unit.Goals as goal

pub returns-clause-cost : goal.returns-clause-cost
returns-clause-cost g c =
    let n = length (packets_of c.args.unit.now) in
    let a = looks-most (boxed_slice_items c.queues.inside.queues) c.deref.result.now (rw c.deref.ensures.value c.queues.invariant) in
    let b = looks-most (boxed_slice_items c.units.inside.queues) c.deref-2.result.now (rw c.deref-2.ensures.value c.units.invariant) in
    let more = unit-more n _ _ _ _ a b in
    if-ok _ _ c.deliver.result (λ d cost. rw (← c.queues.view_is, ← c.units.view_is) (cost-more (g.C.Tick.taken c.args.steps.now) (g.C.Tick.taken c.deliver.new.steps) _ _ more cost)) c.deliver.ensures.cost

pub returns-clause-refused_cost : goal.returns-clause-refused_cost
returns-clause-refused_cost g c =
    let n = length (packets_of c.args.unit.now) in
    let a = looks-most (boxed_slice_items c.queues.inside.queues) c.deref.result.now (rw c.deref.ensures.value c.queues.invariant) in
    let b = looks-most (boxed_slice_items c.units.inside.queues) c.deref-2.result.now (rw c.deref-2.ensures.value c.units.invariant) in
    let more = unit-more n _ _ _ _ a b in
    on-err c.deliver.result (λ cost. rw (← c.queues.view_is, ← c.units.view_is) (cost-more-err (g.C.Tick.taken c.args.steps.now) (g.C.Tick.taken c.deliver.new.steps) _ _ (length (boxed_slice_items c.queues.inside.queues)) more cost)) c.deliver.ensures.refused_cost
