use Rattle.tc_queues.proofs.Names.{◌<◌, true, length, get_or, refl, ◌∙◌, arith, length-set, QueueSetting}
use Rattle.tc_queues.proofs.Apart.{none-marked, not-apart, apart-more, marked-more}
use Rattle.tc_queues.proofs.settings.are_apart.Goals as goal

pub loop-queue-init : goal.loop-queue-init
loop-queue-init c = record {
  size = refl;
  apart = λ j k d jk none. absurd (omega arith);
  marked = none-marked (λ (q : QueueSetting). q.apid) c.args.queues.now 2047;
}

pub returns-then-seen-apid : goal.returns-then-seen-apid
returns-then-seen-apid c =
    let d : QueueSetting = record { apid = 0; capacity = 0 } in
    let within : (get_or c.args.queues.now c.loop-queue.queue-index d).apid < length c.loop-queue.seen = (let small = c.requires c.loop-queue.queue-index d c.loop-queue-test.true in omega (arith, c.loop-queue.invariant.size)) in
    (λ yes. absurd cc, λ apart. absurd (not-apart (λ (q : QueueSetting). q.apid) c.args.queues.now c.loop-queue.queue-index d c.loop-queue-test.true ((c.loop-queue.invariant.marked _ within).0 c.if-seen-apid.true) apart))

pub loop-queue-preserved : goal.loop-queue-preserved
loop-queue-preserved c =
    let d : QueueSetting = record { apid = 0; capacity = 0 } in
    let within : (get_or c.args.queues.now c.loop-queue.queue-index d).apid < length c.loop-queue.seen = (let small = c.requires c.loop-queue.queue-index d c.loop-queue-test.true in omega (arith, c.loop-queue.invariant.size)) in
    record {
      size = length-set c.loop-queue.seen _ true ∙ c.loop-queue.invariant.size;
      apart = apart-more (λ (q : QueueSetting). q.apid) c.args.queues.now c.loop-queue.queue-index d c.loop-queue-test.true (λ earlier. absurd (let marked = (c.loop-queue.invariant.marked _ within).1 earlier in let not = c.if-seen-apid.false in cc)) c.loop-queue.invariant.apart;
      marked = marked-more (λ (q : QueueSetting). q.apid) c.args.queues.now c.loop-queue.queue-index d c.loop-queue.seen c.loop-queue-test.true within c.loop-queue.invariant.marked;
    }
