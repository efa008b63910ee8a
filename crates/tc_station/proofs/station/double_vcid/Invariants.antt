use Rattle.tc_station.proofs.Distinct.{DistinctBelow}
use Rattle.tc_station.proofs.station.double_vcid.Given as goal

abbrev pub invariant-loop-i : goal.invariant-loop-i
invariant-loop-i l = DistinctBelow l.list l.i
