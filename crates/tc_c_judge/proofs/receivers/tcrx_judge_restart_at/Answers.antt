use Rattle.tc_c_judge.proofs.Returned.{receiver-left}
use Rattle.tc_c_judge.proofs.receivers.tcrx_judge_restart_at.Goals as goal

pub returns-in-Some-clause-restarted : goal.returns-in-Some-clause-restarted
returns-in-Some-clause-restarted c =
    let new = c.restart.new.held in
    let left = receiver-left c.lend_receiver.result c.in-Some.held _ new _ c.in-Some.is (c.lend_receiver.follows.holds new) c.restart.ensures.kept in
    rw (← c.in-Some.ensures.judge) (new.judge, c.code.ensures, c.restart.ensures.restarted, left)
