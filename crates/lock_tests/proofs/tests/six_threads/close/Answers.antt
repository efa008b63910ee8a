use Rattle.std.proofs.Common.{◌∙◌, ap}
use Rattle.lock_tests.proofs.Hands.{taken_out}
use Rattle.lock_tests.proofs.tests.six_threads.close.Goals as goal

pub replace-requires-clause-locks : goal.replace-requires-clause-locks
replace-requires-clause-locks g c =
    let t = taken_out _ _ c.lock.ensures.taken in
    (t.0, ap (λ m. m.1) c.account.ensures.same.2 ∙ (c.report_both-3.ensures.same.1 ∙ (c.report_both-2.ensures.same.1 ∙ (c.report_both.ensures.same.1 ∙ t.1))))
