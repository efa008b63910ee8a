use Rattle.tc_channel.proofs.Names.{no_limits}
use Rattle.tc_channel.proofs.AtWork.{without-limits}
use Rattle.tc_channel.proofs.channel.start.Goals as goal

pub new-requires-2-clause-limits : goal.new-requires-2-clause-limits
new-requires-2-clause-limits g c = (no_limits, without-limits c.in_ok-runs.runs c.in_ok-runs.ensures.limits)

pub invariant_of-result : goal.invariant_of-result
invariant_of-result g c = rw c.start.ensures.events (c.in_ok-channel_core.ensures.started no_limits (without-limits c.in_ok-runs.runs c.in_ok-runs.ensures.limits))
