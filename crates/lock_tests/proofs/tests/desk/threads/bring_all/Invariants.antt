use Rattle.std.proofs.Common.{◌≡◌}
use Rattle.lock_tests.proofs.tests.desk.threads.bring_all.Given as goal

abbrev pub invariant-loop-turn : goal.invariant-loop-turn
invariant-loop-turn g l = l.operator.lock ≡ l.desk.id
