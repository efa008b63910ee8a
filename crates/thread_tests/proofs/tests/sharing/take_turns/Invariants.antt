use Rattle.tc_station.specs.Tally.{IsOurs}
use Rattle.thread_tests.proofs.tests.sharing.take_turns.Given as goal

abbrev pub invariant-loop-number : goal.invariant-loop-number
invariant-loop-number g l = IsOurs l.station l.operator
