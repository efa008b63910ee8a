use Rattle.tc_station.specs.Tally.{IsOurs}
use Rattle.thread_tests.proofs.tests.six_threads.Worker.work.Given as goal

abbrev pub invariant-loop-turn : goal.invariant-loop-turn
invariant-loop-turn g l = IsOurs l.station l.self.operator
