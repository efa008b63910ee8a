use Rattle.lock_tests.specs.Book.{IsWriter}
use Rattle.lock_tests.proofs.tests.waiting.who_sleeps_is_woken.Given as goal

abbrev pub invariant-loop-round : goal.invariant-loop-round
invariant-loop-round g l = IsWriter (record { id = l.lock-inside.table.shared.table_id; head = l.lock-inside.table.shared.key }) l.first × IsWriter (record { id = l.lock-inside.table.shared.table_id; head = l.lock-inside.table.shared.key }) l.other
