use Rattle.tc_station.proofs.Names.{◌≡◌, ◌≤◌, ◌*◌, take, counted_by_all}
use Rattle.tc_station.proofs.closing.count_of_all.Given as goal

abbrev pub invariant-loop-operator : goal.invariant-loop-operator
invariant-loop-operator l =
    (l.total ≡ counted_by_all l.place (take l.operator-index l.operators)) × (l.total ≤ l.operator-index * 18446744073709551616)
