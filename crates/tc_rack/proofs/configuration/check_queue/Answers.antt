use Rattle.std.proofs.Common.{false, get_or, ap, ◌∙◌, sym, arith}
use Rattle.tc_rack.proofs.Additions.{bad-apid, double-apid, bad-capacity, queue-allowed}
use Rattle.tc_rack.proofs.ApidEntries.{there, not-there}
use Rattle.tc_rack.proofs.configuration.check_queue.Goals.{then-queue-lt1-via-then-queue-lt1, then-queue-lt1-via-else-queue-lt1+then-queue-gt256}
use Rattle.tc_rack.proofs.configuration.check_queue.Goals as goal

pub returns-then-queue-gt2046 : goal.returns-then-queue-gt2046
returns-then-queue-gt2046 c s allowed apids = bad-apid s allowed c.args.queue (λ fits. absurd (omega (arith, c.if-queue-gt2046.true, fits)))

pub returns-then-apids-from : goal.returns-then-apids-from
returns-then-apids-from c s allowed apids =
    let fits = c.if-queue-gt2046.false in
    let has = sym (ap (λ k. get_or c.args.apids.now k false) c.from.ensures) ∙ c.if-apids-from.true in
    double-apid s allowed c.args.queue fits (there s.queues c.args.apids.now c.args.queue.apid fits apids has)

pub returns-then-queue-lt1 : goal.returns-then-queue-lt1
returns-then-queue-lt1 c s allowed apids =
    let fits = c.if-queue-gt2046.false in
    let free = sym (ap (λ k. get_or c.args.apids.now k false) c.from.ensures) ∙ c.if-apids-from.false in
    bad-capacity s allowed c.args.queue fits (not-there s.queues c.args.apids.now c.args.queue.apid fits apids free)
    (λ within. elim c.then-queue-lt1.branch [
      | then-queue-lt1-via-then-queue-lt1 w ↦ absurd (omega (arith, w.if-queue-lt1.true, within.0))
      | then-queue-lt1-via-else-queue-lt1+then-queue-gt256 w ↦ absurd (omega (arith, w.if-queue-gt256.true, within.1))
    ])

pub returns : goal.returns
returns c s allowed apids =
    let fits = c.if-queue-gt2046.false in
    let free = sym (ap (λ k. get_or c.args.apids.now k false) c.from.ensures) ∙ c.if-apids-from.false in
    queue-allowed s allowed c.args.queue fits (not-there s.queues c.args.apids.now c.args.queue.apid fits apids free)
    (omega (arith, c.if-queue-lt1.false), omega (arith, c.if-queue-gt256.false))
