use Rattle.tc_station.proofs.Names.{◌≡◌, ◌≤◌, length, map, take, vec_capacity, arrival}
use Rattle.tc_station.proofs.OwnedDesks.{issued_below}
use Rattle.tc_station.proofs.operator.desk_operators.Given as goal

abbrev pub invariant-loop-place : goal.invariant-loop-place
invariant-loop-place g l =
    (l.owned_desks ≡ issued_below l.place l.fn.owned_desks) × (l.operators.items ≡ map arrival (take l.place l.fn.owned_desks)) × (length l.fn.owned_desks ≤ vec_capacity l.operators)
