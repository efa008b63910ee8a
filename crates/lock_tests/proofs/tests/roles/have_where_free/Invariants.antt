use Rattle.lock_tests.specs.Book.{IsWriter}
use Rattle.lock_tests.proofs.tests.roles.have_where_free.Given as goal

abbrev pub invariant-loop : goal.invariant-loop
invariant-loop g l = IsWriter l.lock l.seat
