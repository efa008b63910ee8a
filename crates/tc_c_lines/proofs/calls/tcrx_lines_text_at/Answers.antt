use Rattle.std.proofs.Common.{◌∙◌, Some, ap}
use Rattle.tc_c_lines.proofs.Returned.{left-so, some-more}
use Rattle.tc_c_lines.proofs.calls.tcrx_lines_text_at.Goals as goal

pub returns-in-Some-clause-given : goal.returns-in-Some-clause-given
returns-in-Some-clause-given c =
    let left = left-so c.lend.result c.in-Some.session _ c.text.new.session c.in-Some.is (c.lend.follows.holds c.text.new.session) in
    rw (← c.in-Some.ensures.session) (some-more c.in-Some.session.now.waits _ _ (λ said given. (c.text.new.session, left, given.0, given.1)) c.text.ensures.given)

pub returns-in-Some-clause-none : goal.returns-in-Some-clause-none
returns-in-Some-clause-none c =
    let left = left-so c.lend.result c.in-Some.session _ c.text.new.session c.in-Some.is (c.lend.follows.holds c.text.new.session) in
    rw (← c.in-Some.ensures.session) (λ free. let same = c.text.ensures.none free in (same.0, left ∙ ap Some same.1, same.2))
