use Rattle.tc_queues.proofs.Names.{refl, sym, ap, ◌∙◌, length, boxed_slice_items, rings_in}
use Rattle.tc_queues.specs.Copying.{copied_in}
use Rattle.tc_queues.proofs.Found.{copied-none, copied-first, keys-set, oldest-in, popped-in}
use Rattle.tc_queues.proofs.InRooms.{committed-set, same-sizes}
use Rattle.tc_queues.proofs.taking.copy_from.Goals as goal

pub returns-in_default-clause-count : goal.returns-in_default-clause-count
returns-in_default-clause-count g c = sym (copied-none (length c.args.into.now) c.args.key (rings_in (boxed_slice_items c.args.queues.now)) (rw c.deref.ensures.value at c.in_default.ensures.none))

pub returns : goal.returns
returns g c =
    let key = c.args.key in
    let qs = boxed_slice_items c.args.queues.now in
    let place = c.in-Some.place in
    let next = c.pop_front.new.self in
    let find = rw c.deref.ensures.value at c.in-Some.ensures in
    let inside = find.some.0 in
    let is = c.index_mut-queue.ensures.value in
    let slots = c.pop_front.ensures.slots in
    record {
      count = sym c.in_ok-count.was ∙ c.copy_to_front.ensures.count ∙ ap (copied_in (length c.args.into.now)) c.front.ensures ∙ sym (copied-first (length c.args.into.now) key place qs _ inside is find.first);
      item = rw (oldest-in key place qs _ inside is find.first) (rw c.front.ensures at c.in_ok-count.ensures.item);
      rings = popped-in key place qs _ next inside is c.pop_front.ensures.key slots find.first;
      keys = keys-set qs place _ next is c.pop_front.ensures.key;
      sizes = same-sizes qs place _ next is (ap (λ x. x.size) slots);
      committed = λ all. committed-set qs place _ next all inside is (ap (λ x. x.staged) slots);
      refused = tt;
      cost = find.cost;
      far = find.far;
    }

pub returns-in_err-count-clause-keys : goal.returns-in_err-count-clause-keys
returns-in_err-count-clause-keys g c = keys-set (boxed_slice_items c.args.queues.now) c.in-Some.place _ _ c.index_mut-queue.ensures.value refl

pub returns-in_err-count-clause-sizes : goal.returns-in_err-count-clause-sizes
returns-in_err-count-clause-sizes g c = same-sizes (boxed_slice_items c.args.queues.now) c.in-Some.place _ _ c.index_mut-queue.ensures.value refl

pub returns-in_err-count-clause-committed : goal.returns-in_err-count-clause-committed
returns-in_err-count-clause-committed g c = λ all. committed-set (boxed_slice_items c.args.queues.now) c.in-Some.place _ _ all (rw c.deref.ensures.value at c.in-Some.ensures.some).0 c.index_mut-queue.ensures.value refl

pub returns-in_err-count-clause-cost : goal.returns-in_err-count-clause-cost
returns-in_err-count-clause-cost g c = rw c.deref.ensures.value at c.in-Some.ensures.cost

pub returns-in_err-count-clause-far : goal.returns-in_err-count-clause-far
returns-in_err-count-clause-far g c = rw c.deref.ensures.value at c.in-Some.ensures.far
