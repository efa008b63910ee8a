use Rattle.lock_tests.specs.Book.{IsWriter}
use Rattle.lock_tests.proofs.tests.roles.write_all.Given as goal

abbrev pub invariant-loop-turn : goal.invariant-loop-turn
invariant-loop-turn g l = IsWriter l.lock l.seat
