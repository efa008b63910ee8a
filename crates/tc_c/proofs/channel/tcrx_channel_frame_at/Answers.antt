use Rattle.std.proofs.Common.{◌∙◌, Some, ap}
use Rattle.tc_c.proofs.Returned.{frame-left, left-so}
use Rattle.tc_c.proofs.channel.tcrx_channel_frame_at.Goals as goal

pub returns-in-Some-clause-done : goal.returns-in-Some-clause-done
returns-in-Some-clause-done c =
    let left = left-so c.lend.result c.in-Some.held _ c.frame_with_steps.new.channel c.in-Some.is (c.lend.follows.holds c.frame_with_steps.new.channel) in
    rw (← c.in-Some.ensures.channel) (frame-left _ c.args.octets.now c.frame_with_steps.result c.in-Some.held.now c.frame_with_steps.new.channel _ left c.frame_with_steps.ensures.done)

pub returns-in-Some-clause-refused : goal.returns-in-Some-clause-refused
returns-in-Some-clause-refused c =
    let left = left-so c.lend.result c.in-Some.held _ c.frame_with_steps.new.channel c.in-Some.is (c.lend.follows.holds c.frame_with_steps.new.channel) in
    λ refused. left ∙ ap Some (c.frame_with_steps.ensures.refused refused) ∙ c.in-Some.ensures.channel
