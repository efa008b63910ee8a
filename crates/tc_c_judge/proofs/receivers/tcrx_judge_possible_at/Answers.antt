use Rattle.tc_c_judge.proofs.Returned.{receiver-left}
use Rattle.tc_c_judge.proofs.receivers.tcrx_judge_possible_at.Goals as goal

pub returns-in-Some-clause-possible : goal.returns-in-Some-clause-possible
returns-in-Some-clause-possible c =
    let new = c.possible.new.held in
    let left = receiver-left c.lend_receiver.result c.in-Some.held _ new _ c.in-Some.is (c.lend_receiver.follows.holds new) c.possible.ensures.kept in
    rw (← c.in-Some.ensures.judge) (new.set, c.code.ensures, c.possible.ensures.possible, left)
