use Rattle.tc_queues.proofs.Names.{◌≡◌, ◌≤◌, ◌*◌, take, sum_by, QueueSetting}
use Rattle.tc_queues.proofs.memory.stored_packets.Given as goal

abbrev pub invariant-loop-queue : goal.invariant-loop-queue
invariant-loop-queue l =
    (l.stored ≡ sum_by (λ (q : QueueSetting). q.capacity) (take l.queue-index l.queues)) × (l.stored ≤ l.queue-index * 65536)
