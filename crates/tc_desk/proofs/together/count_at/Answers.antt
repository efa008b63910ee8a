use Rattle.tc_desk.proofs.Names.{get_or, nobody}
use Rattle.tc_desk.proofs.Reported.{all_counted, own-column}
use Rattle.tc_desk.proofs.together.count_at.Goals as goal

pub returns : goal.returns
returns g c =
    rw (own-column g.C.OperatorList.at_desks c.args.place c.args.operator_lists.now)
    (all_counted (λ operator_list. (get_or (g.C.OperatorList.at_desks operator_list) c.args.place nobody).own) c.args.operator_lists.now c.loop-operator_list.operator_list-index c.loop-operator_list.total c.loop-operator_list-test.false c.loop-operator_list.invariant)
