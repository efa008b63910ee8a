use Rattle.std.proofs.Common.{◌∙◌, Some, ap}
use Rattle.tc_c_lines.proofs.Returned.{left-so}
use Rattle.tc_c_lines.proofs.calls.tcrx_lines_answer_at.Goals as goal

pub returns-in-Some-clause-answered : goal.returns-in-Some-clause-answered
returns-in-Some-clause-answered c =
    let left = left-so c.lend.result c.in-Some.session _ c.answer.new.session c.in-Some.is (c.lend.follows.holds c.answer.new.session) in
    rw (← c.in-Some.ensures.session) (λ free. (c.answer.new.session, left, c.answer.ensures.answered free))

pub returns-in-Some-clause-waits : goal.returns-in-Some-clause-waits
returns-in-Some-clause-waits c =
    let left = left-so c.lend.result c.in-Some.session _ c.answer.new.session c.in-Some.is (c.lend.follows.holds c.answer.new.session) in
    rw (← c.in-Some.ensures.session) (λ waits. let same = c.answer.ensures.waits waits in (same.0, left ∙ ap Some same.1, same.2))
