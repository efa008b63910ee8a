use Rattle.tc_c_judge.proofs.Returned.{receiver-left}
use Rattle.tc_c_judge.proofs.receivers.tcrx_judge_restart_from_at.Goals as goal

pub returns-in-Some-clause-taken : goal.returns-in-Some-clause-taken
returns-in-Some-clause-taken c =
    let new = c.restart_from.new.held in
    let left = receiver-left c.lend_receiver.result c.in-Some.held _ new _ c.in-Some.is (c.lend_receiver.follows.holds new) c.restart_from.ensures.kept in
    rw (← c.in-Some.ensures.judge) (c.restart_from.result, new.judge, c.flagged.ensures, c.restart_from.ensures.taken, left)
