use Rattle.tc_c_judge.proofs.Returned.{receiver-kept, receiver-left}
use Rattle.tc_c_judge.proofs.receivers.tcrx_judge_heard_at.Goals as goal

pub returns-in-Some-clause-heard : goal.returns-in-Some-clause-heard
returns-in-Some-clause-heard c =
    let new = c.heard.new.held in
    let left = receiver-left c.lend_receiver.result c.in-Some.held _ new _ c.in-Some.is (c.lend_receiver.follows.holds new) c.heard.ensures.kept in
    rw (← c.in-Some.ensures.judge) (λ item. let heard = c.heard.ensures.heard item in (heard.0, new.judge, heard.1, heard.2, left))

pub returns-in-Some-clause-no_item : goal.returns-in-Some-clause-no_item
returns-in-Some-clause-no_item c =
    rw (← c.in-Some.ensures.judge) (λ none. let heard = c.heard.ensures.no_item none in (heard.0, (receiver-kept c.lend_receiver.result c.in-Some.held _ _ c.heard.new.held _ c.in-Some.is (c.lend_receiver.follows.holds c.heard.new.held) heard.1 c.in-Some.ensures.judge)))
