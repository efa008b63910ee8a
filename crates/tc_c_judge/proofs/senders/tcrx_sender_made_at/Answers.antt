use Rattle.tc_c_judge.proofs.Returned.{left-so}
use Rattle.tc_c_judge.proofs.senders.tcrx_sender_made_at.Goals as goal

pub returns-in-Some-clause-made : goal.returns-in-Some-clause-made
returns-in-Some-clause-made c =
    let new = c.clcw_made.new.judge in
    let left = left-so c.lend_sender.result c.in-Some.judge _ _ c.in-Some.is (c.lend_sender.follows.holds new) in
    rw (← c.in-Some.ensures.judge) (let judged = c.clcw_made.ensures in (judged.0, new, judged.1, judged.2, judged.3, judged.4, left))
