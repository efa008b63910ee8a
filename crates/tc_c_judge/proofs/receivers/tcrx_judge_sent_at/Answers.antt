use Rattle.std.proofs.Common.{◌≡◌}
use Rattle.tc_c_judge.specs.Records.{unflagged}
use Rattle.tc_c_judge.proofs.Returned.{receiver-kept, receiver-left, refused-left, sent-left}
use Rattle.tc_c_judge.proofs.receivers.tcrx_judge_sent_at.Goals as goal

pub returns-in-Some-clause-sent : goal.returns-in-Some-clause-sent
returns-in-Some-clause-sent c =
    let new = c.sent.new.held in
    let left = receiver-left c.lend_receiver.result c.in-Some.held _ new _ c.in-Some.is (c.lend_receiver.follows.holds new) c.sent.ensures.kept in
    rw (← c.in-Some.ensures.judge) (sent-left _ c.args.octets.now c.sent.result c.in-Some.held.now new _ left c.sent.ensures.sent)

pub returns-in-Some-clause-bad_flag : goal.returns-in-Some-clause-bad_flag
returns-in-Some-clause-bad_flag c =
    let new = c.sent.new.held in
    let kept = λ (same : new ≡ c.in-Some.held.now). receiver-kept c.lend_receiver.result c.in-Some.held _ _ new _ c.in-Some.is (c.lend_receiver.follows.holds new) same c.in-Some.ensures.judge in
    rw (← c.in-Some.ensures.judge) (refused-left _ c.sent.result unflagged _ _ kept c.sent.ensures.bad_flag)
