use Rattle.tc_queues.proofs.Names.{◌<◌, length, arith, boxed_slice_items, common_steps, map_over_more, roll_back}
use Rattle.tc_queues.proofs.committing.roll_back.Goals as goal

pub loop-i-preserved : goal.loop-i-preserved
loop-i-preserved g c =
    let inside : c.loop-i.i < length (boxed_slice_items c.args.queues.now) = grind (arith, common_steps) in
    let cost = c.loop-i.invariant.cost in
    let tick = c.tick.ensures.most in
    record {
      queues = rw c.roll_back.ensures (map_over_more roll_back (boxed_slice_items c.args.queues.now) (boxed_slice_items c.loop-i.queues) c.loop-i.i c.index_mut.result.now inside c.loop-i.invariant.queues c.index_mut.ensures.value);
      cost = omega arith;
    }
