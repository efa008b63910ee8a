use Rattle.std.proofs.Common.{rules}
use Rattle.lock_tests.proofs.Hands.{has_it}
use Rattle.lock_tests.proofs.tests.turns.try_turn.Goals as goal

pub unlock-requires-clause-unchanged : goal.unlock-requires-clause-unchanged
unlock-requires-clause-unchanged c = has_it c.args.seat.now.me c.try_lock-taken.new.seat.me (search rules)
