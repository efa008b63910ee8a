use Rattle.std.proofs.Common.{◌∙◌}
use Rattle.tc_c.proofs.Returned.{left-so}
use Rattle.tc_c.proofs.counts.tcrx_channel_clcw_at.Goals as goal

pub returns-in-Some-clause-unchanged : goal.returns-in-Some-clause-unchanged
returns-in-Some-clause-unchanged c =
    let left = left-so c.lend.result c.in-Some.held _ c.in-Some.held.now c.in-Some.is (c.lend.follows.holds c.in-Some.held.now) in
    left ∙ c.in-Some.ensures.channel
