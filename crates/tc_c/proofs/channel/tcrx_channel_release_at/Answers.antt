use Rattle.std.proofs.Common.{◌∙◌, Some, ap}
use Rattle.tc_c.proofs.Returned.{left-so}
use Rattle.tc_c.proofs.channel.tcrx_channel_release_at.Goals as goal

pub returns-in-Some-clause-done : goal.returns-in-Some-clause-done
returns-in-Some-clause-done c =
    let left = left-so c.lend.result c.in-Some.held _ c.release_with_steps.new.channel c.in-Some.is (c.lend.follows.holds c.release_with_steps.new.channel) in
    rw (← c.in-Some.ensures.channel) (λ waits. let done = c.release_with_steps.ensures.done waits in (done.0, left ∙ ap Some done.1))

pub returns-in-Some-clause-refused : goal.returns-in-Some-clause-refused
returns-in-Some-clause-refused c =
    let left = left-so c.lend.result c.in-Some.held _ c.release_with_steps.new.channel c.in-Some.is (c.lend.follows.holds c.release_with_steps.new.channel) in
    λ refused. left ∙ ap Some (c.release_with_steps.ensures.refused refused) ∙ c.in-Some.ensures.channel
