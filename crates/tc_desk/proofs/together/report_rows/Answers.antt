use Rattle.tc_desk.proofs.Names.{◌≡◌, [], arith, map, nil_from_length}
use Rattle.tc_desk.proofs.Rows.{row_here, row_step}
use Rattle.tc_desk.proofs.together.report_rows.Goals as goal

pub report_row-requires : goal.report_row-requires
report_row-requires g c = row_here g.C.OperatorList.at_desks c.loop-operator_list.guards _ _ c.in-Some.operator_list c.into_operators.result.items c.in-Some.ensures.steps.0 c.into_operators.ensures c.loop-operator_list.invariant.3

pub loop-operator_list-preserved : goal.loop-operator_list-preserved
loop-operator_list-preserved g c =
    let i = c.loop-operator_list.invariant in
    let step = row_step g.C.OperatorList.at_desks c.loop-operator_list.guards c.report_row.new.guards c.args.guards.now _ _ c.in-Some.operator_list c.into_operators.result.items (map g.C.OperatorList.at_desks c.args.operator_lists.items) c.in-Some.ensures.steps.0 c.into_operators.ensures c.report_row.ensures i.2 i.3 in
    (tt, tt, step.0, step.1)

pub returns : goal.returns
returns g c =
    let i = c.loop-operator_list.invariant in
    let rest = c.loop-operator_list.operator_list-iterator.rest in
    let none : rest.items ≡ [] = nil_from_length rest.items (omega (arith, rest.ok.0, c.in-None.ensures.steps.0)) in
    rw none at i.2
