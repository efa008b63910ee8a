use Rattle.lock_tests.specs.Book.{IsWriter}
use Rattle.lock_tests.proofs.tests.roles.write_after_a_while.Given as goal

abbrev pub invariant-loop-number : goal.invariant-loop-number
invariant-loop-number g l = IsWriter l.lock l.seat
