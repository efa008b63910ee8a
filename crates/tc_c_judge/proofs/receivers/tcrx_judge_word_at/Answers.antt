use Rattle.std.proofs.Common.{refl}
use Rattle.tc_c_judge.proofs.Returned.{receiver-kept}
use Rattle.tc_c_judge.proofs.receivers.tcrx_judge_word_at.Goals as goal

pub returns-in-Some-clause-unchanged : goal.returns-in-Some-clause-unchanged
returns-in-Some-clause-unchanged c =
    receiver-kept c.lend_receiver.result c.in-Some.held _ _ c.in-Some.held.now _ c.in-Some.is (c.lend_receiver.follows.holds c.in-Some.held.now) refl c.in-Some.ensures.judge
