use Rattle.tc_queues.proofs.Names.{◌≡◌, ◌++◌, ◌+◌, ◌≤◌, map, take, drop, boxed_slice_items, roll_back}
use Rattle.tc_queues.proofs.committing.roll_back.Given as goal

abbrev pub invariant-loop-i : goal.invariant-loop-i
invariant-loop-i g l = record {
  queues : (boxed_slice_items l.queues) ≡ map roll_back (take l.i (boxed_slice_items l.fn.queues)) ++ drop l.i (boxed_slice_items l.fn.queues);
  cost : g.C.Tick.taken l.steps ≤ g.C.Tick.taken l.fn.steps + l.i;
}
