use Rattle.tc_queues.proofs.Names.{◌≡◌, length, QueueSetting}
use Rattle.tc_queues.proofs.Apart.{ApartBelow, AreMarked}
use Rattle.tc_queues.proofs.settings.are_apart.Given as goal

abbrev pub invariant-loop-queue : goal.invariant-loop-queue
invariant-loop-queue l = record {
  size : length l.seen ≡ 2047;
  apart : ApartBelow (λ (q : QueueSetting). q.apid) l.queues l.queue-index;
  marked : AreMarked (λ (q : QueueSetting). q.apid) l.queues l.queue-index l.seen;
}
