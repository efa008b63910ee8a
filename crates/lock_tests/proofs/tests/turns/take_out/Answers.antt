use Rattle.lock_tests.proofs.Hands.{taken_out}
use Rattle.lock_tests.proofs.tests.turns.take_out.Goals as goal

pub replace-requires-clause-locks : goal.replace-requires-clause-locks
replace-requires-clause-locks g c = taken_out _ _ c.lock.ensures.taken
