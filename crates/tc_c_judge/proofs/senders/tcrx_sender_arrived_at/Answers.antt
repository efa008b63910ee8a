use Rattle.std.proofs.Common.{◌≡◌}
use Rattle.tc_c_judge.specs.Records.{no_verdict}
use Rattle.tc_c_judge.proofs.Returned.{arrived-left, left-so, refused-left, sender-kept}
use Rattle.tc_c_judge.proofs.senders.tcrx_sender_arrived_at.Goals as goal

pub returns-in-Some-clause-arrived : goal.returns-in-Some-clause-arrived
returns-in-Some-clause-arrived c =
    let new = c.frame_arrived.new.judge in
    let left = left-so c.lend_sender.result c.in-Some.judge _ _ c.in-Some.is (c.lend_sender.follows.holds new) in
    rw (← c.in-Some.ensures.judge) (arrived-left _ c.args.number c.frame_arrived.result c.in-Some.judge.now new _ left c.frame_arrived.ensures.arrived)

pub returns-in-Some-clause-bad_flag : goal.returns-in-Some-clause-bad_flag
returns-in-Some-clause-bad_flag c =
    let new = c.frame_arrived.new.judge in
    let kept = λ (same : new ≡ c.in-Some.judge.now). sender-kept c.lend_sender.result c.in-Some.judge _ _ new _ c.in-Some.is (c.lend_sender.follows.holds new) same c.in-Some.ensures.judge in
    rw (← c.in-Some.ensures.judge) (refused-left _ c.frame_arrived.result no_verdict _ _ kept c.frame_arrived.ensures.bad_flag)
