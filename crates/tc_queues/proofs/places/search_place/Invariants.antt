use Rattle.tc_queues.proofs.Names.{◌≤◌, ◌+◌, take}
use Rattle.tc_queues.proofs.Found.{NoneHas}
use Rattle.tc_queues.proofs.places.search_place.Given as goal

-- no queue so far has the key, and at most one step was taken for each queue so far
abbrev pub invariant-loop-place : goal.invariant-loop-place
invariant-loop-place g l = record {
  none : NoneHas l.key (take l.place l.queues);
  cost : g.C.Tick.taken l.steps ≤ g.C.Tick.taken l.fn.steps + l.place;
}
