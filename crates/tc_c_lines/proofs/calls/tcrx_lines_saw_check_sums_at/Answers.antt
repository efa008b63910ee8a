use Rattle.std.proofs.Common.{◌∙◌}
use Rattle.tc_c_lines.proofs.Returned.{left-so}
use Rattle.tc_c_lines.proofs.calls.tcrx_lines_saw_check_sums_at.Goals as goal

pub returns-in-Some-clause-unchanged : goal.returns-in-Some-clause-unchanged
returns-in-Some-clause-unchanged c =
    left-so c.lend.result c.in-Some.session _ c.in-Some.session.now c.in-Some.is (c.lend.follows.holds c.in-Some.session.now) ∙ c.in-Some.ensures.session
