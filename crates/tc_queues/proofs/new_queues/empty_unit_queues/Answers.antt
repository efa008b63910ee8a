use Rattle.tc_queues.proofs.Names.{◌≡◌, [], ◌∷◌, ◌∙◌, ap, arith, length, length-append, map, replicate, take_all, empty_unit_queue, stored, ring_in, Keyed}
use Rattle.tc_queues.proofs.InRooms.{rings-more, sizes-more}
use Rattle.tc_queues.proofs.Lists.{all-append}
use Rattle.tc_queues.proofs.new_queues.empty_unit_queues.Goals as goal

pub loop-chosen-preserved : goal.loop-chosen-preserved
loop-chosen-preserved g c =
    let i = c.loop-chosen.invariant in
    let put = c.push_reserved.ensures in
    let qs = c.loop-chosen.units.items in
    let is = c.in_ok-queue.ensures in
    record {
      count = rw put.items (omega (arith, length-append qs (c.in_ok-queue.queue ∷ []), i.count));
      room = rw put.capacity i.room;
      rings = rw put.items (rings-more _ _ _ _ qs _ c.loop-chosen-test.true (ap ring_in is) i.rings);
      sizes = rw put.items (sizes-more _ _ qs _ (ap (λ (x : Keyed). x.slots.size) is) i.sizes);
      committed = rw put.items (all-append _ qs _ i.committed (ap (λ (x : Keyed). x.slots.staged) is, tt));
    }

pub returns : goal.returns
returns g c =
    let i = c.loop-chosen.invariant in
    let done : c.loop-chosen.chosen-index ≡ length c.args.maps.now = omega arith in
    record {
      rings = i.rings ∙ ap (λ xs. map stored (map empty_unit_queue xs)) (take_all _ c.args.maps.now c.loop-chosen-test.false);
      sizes = i.sizes ∙ ap (λ n. replicate n c.args.size) done;
      committed = i.committed;
    }
