use Rattle.tc_station.proofs.Distinct.{AllowedBelow}
use Rattle.tc_station.proofs.station.check_each.Given as goal

abbrev pub invariant-loop-settings : goal.invariant-loop-settings
invariant-loop-settings l = AllowedBelow l.list l.settings-index
