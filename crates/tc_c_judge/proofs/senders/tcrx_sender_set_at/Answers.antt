use Rattle.tc_c_judge.proofs.Returned.{left-so}
use Rattle.tc_c_judge.proofs.senders.tcrx_sender_set_at.Goals as goal

pub returns-in-Some-clause-set : goal.returns-in-Some-clause-set
returns-in-Some-clause-set c =
    let new = c.set.new.judge in
    let left = left-so c.lend_sender.result c.in-Some.judge _ _ c.in-Some.is (c.lend_sender.follows.holds new) in
    rw (← c.in-Some.ensures.judge) (new, c.code.ensures, c.set.ensures, left)
