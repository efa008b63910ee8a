use Rattle.std.proofs.Common.{◌∙◌, Some, ap}
use Rattle.tc_c.proofs.Returned.{left-so, take-left}
use Rattle.tc_c.proofs.takes.tcrx_channel_take_unit_at.Goals as goal

pub returns-in-Some-clause-taken : goal.returns-in-Some-clause-taken
returns-in-Some-clause-taken c =
    let left = left-so c.lend.result c.in-Some.held _ c.take_unit_with_steps.new.channel c.in-Some.is (c.lend.follows.holds c.take_unit_with_steps.new.channel) in
    rw (← c.in-Some.ensures.channel) (take-left _ c.args.buffer.now c.take_unit_with_steps.new.to c.take_unit_with_steps.result c.take_unit_with_steps.new.channel _ _ left c.take_unit_with_steps.ensures.taken)

pub returns-in-Some-clause-refused : goal.returns-in-Some-clause-refused
returns-in-Some-clause-refused c =
    let left = left-so c.lend.result c.in-Some.held _ c.take_unit_with_steps.new.channel c.in-Some.is (c.lend.follows.holds c.take_unit_with_steps.new.channel) in
    λ refused. let same = c.take_unit_with_steps.ensures.refused refused in (same.0, left ∙ ap Some same.1 ∙ c.in-Some.ensures.channel)
