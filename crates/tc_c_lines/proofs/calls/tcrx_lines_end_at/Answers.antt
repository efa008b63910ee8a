use Rattle.std.proofs.Common.{◌∙◌, Some, ap}
use Rattle.tc_c_lines.proofs.Returned.{left-so}
use Rattle.tc_c_lines.proofs.calls.tcrx_lines_end_at.Goals as goal

pub returns-in-Some-clause-ended : goal.returns-in-Some-clause-ended
returns-in-Some-clause-ended c =
    let left = left-so c.lend.result c.in-Some.session _ c.end.new.session c.in-Some.is (c.lend.follows.holds c.end.new.session) in
    rw (← c.in-Some.ensures.session) (λ free. (c.end.new.session, left, c.end.ensures.ended free))

pub returns-in-Some-clause-waits : goal.returns-in-Some-clause-waits
returns-in-Some-clause-waits c =
    let left = left-so c.lend.result c.in-Some.session _ c.end.new.session c.in-Some.is (c.lend.follows.holds c.end.new.session) in
    rw (← c.in-Some.ensures.session) (λ waits. let same = c.end.ensures.waits waits in (same.0, left ∙ ap Some same.1, same.2))
