use Rattle.tc_desk.proofs.Names.{◌≡◌, take, get_or, min, length, ◌-◌, ◌^◌, nobody, sum_by}
use Rattle.tc_desk.proofs.together.count_at.Given as goal

abbrev pub invariant-loop-operator_list : goal.invariant-loop-operator_list
invariant-loop-operator_list g l = l.total ≡ min (sum_by (λ c. length (get_or (g.C.OperatorList.at_desks c) l.place nobody).own.made) (take l.operator_list-index l.operator_lists)) (2 ^ 64 - 1)
