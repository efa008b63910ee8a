use Rattle.tc_queues.proofs.Names.{◌≡◌, [], ◌∷◌, ◌∙◌, ap, arith, length, length-append, map, replicate, take_all, empty_queue, stored, ring_in, Keyed}
use Rattle.tc_queues.proofs.InRooms.{rings-more, sizes-more}
use Rattle.tc_queues.proofs.Lists.{all-append}
use Rattle.tc_queues.proofs.new_queues.empty_queues.Goals as goal

pub loop-setting-preserved : goal.loop-setting-preserved
loop-setting-preserved g c =
    let i = c.loop-setting.invariant in
    let put = c.push_reserved.ensures in
    let qs = c.loop-setting.queues.items in
    let is = c.in_ok-queue.ensures in
    record {
      count = rw put.items (omega (arith, length-append qs (c.in_ok-queue.queue ∷ []), i.count));
      room = rw put.capacity i.room;
      rings = rw put.items (rings-more _ _ _ _ qs _ c.loop-setting-test.true (ap ring_in is) i.rings);
      sizes = rw put.items (sizes-more _ _ qs _ (ap (λ (x : Keyed). x.slots.size) is) i.sizes);
      committed = rw put.items (all-append _ qs _ i.committed (ap (λ (x : Keyed). x.slots.staged) is, tt));
    }

pub returns : goal.returns
returns g c =
    let i = c.loop-setting.invariant in
    let done : c.loop-setting.setting-index ≡ length c.args.settings.now = omega arith in
    record {
      rings = i.rings ∙ ap (λ xs. map stored (map empty_queue xs)) (take_all _ c.args.settings.now c.loop-setting-test.false);
      sizes = i.sizes ∙ ap (λ n. replicate n c.args.size) done;
      committed = i.committed;
    }
