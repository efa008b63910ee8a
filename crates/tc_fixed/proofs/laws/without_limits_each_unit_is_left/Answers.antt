use Rattle.std.proofs.Common.{refl}
use Rattle.tc_queues.specs.ChannelState.{no_limits}
use Rattle.tc_fixed.proofs.laws.without_limits_each_unit_is_left.Goals as goal

pub returns : goal.returns
unfolding no_limits
returns c = refl
