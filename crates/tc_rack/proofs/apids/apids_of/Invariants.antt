use Rattle.tc_rack.proofs.Names.{take, AreApidsOf}
use Rattle.tc_rack.proofs.apids.apids_of.Given as goal

-- the table has the APIDs of the queues so far
abbrev pub invariant-loop-queue : goal.invariant-loop-queue
invariant-loop-queue l = AreApidsOf (take l.queue-index l.queues) l.apids
