use Rattle.tc_c_judge.proofs.Returned.{receiver-left}
use Rattle.tc_c_judge.proofs.receivers.tcrx_judge_go_on_at.Goals as goal

pub returns-in-Some-clause-taken : goal.returns-in-Some-clause-taken
returns-in-Some-clause-taken c =
    let new = c.go_on.new.held in
    let left = receiver-left c.lend_receiver.result c.in-Some.held _ new _ c.in-Some.is (c.lend_receiver.follows.holds new) c.go_on.ensures.kept in
    rw (← c.in-Some.ensures.judge) (c.go_on.result, new.judge, c.flagged.ensures, c.go_on.ensures.taken, left)
