use Rattle.tc_desk.proofs.Names.{◌≡◌, map, AreOurs, owners_of, reported_rows}
use Rattle.tc_desk.proofs.together.report_rows.Given as goal

abbrev pub invariant-loop-operator_list : goal.invariant-loop-operator_list
invariant-loop-operator_list g l =
    (goal.iterator-loop-operator_list g).can_next l.operator_list-iterator × (goal.iterator-loop-operator_list g).is_finite l.operator_list-iterator
    × (reported_rows l.guards (map g.C.OperatorList.at_desks l.operator_list-iterator.rest.items) ≡ reported_rows l.fn.guards (map g.C.OperatorList.at_desks l.fn.operator_lists.items))
    × AreOurs (owners_of l.guards) (map g.C.OperatorList.at_desks l.operator_list-iterator.rest.items)
