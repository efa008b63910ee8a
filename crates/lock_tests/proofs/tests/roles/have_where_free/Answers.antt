use Rattle.std.proofs.Common.{rules}
use Rattle.lock_tests.proofs.Hands.{has_it}
use Rattle.lock_tests.proofs.tests.roles.have_where_free.Goals as goal

pub unlock-requires-clause-unchanged : goal.unlock-requires-clause-unchanged
unlock-requires-clause-unchanged g c = has_it c.loop.seat.me c.try_lock.new.seat.me (search rules)
