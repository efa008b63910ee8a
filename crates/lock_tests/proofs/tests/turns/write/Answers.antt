use Rattle.lock_tests.proofs.Hands.{has_it}
use Rattle.lock_tests.proofs.tests.turns.write.Goals as goal

pub write_with-requires-clause-unchanged : goal.write_with-requires-clause-unchanged
write_with-requires-clause-unchanged g c = has_it _ _ c.lock.ensures.taken
