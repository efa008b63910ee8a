use Rattle.lock_tests.proofs.Hands.{has_it}
use Rattle.lock_tests.proofs.tests.roles.have_for_long.Goals as goal

pub unlock-requires-clause-unchanged : goal.unlock-requires-clause-unchanged
unlock-requires-clause-unchanged g c = has_it _ _ c.lock.ensures.taken
