use Rattle.tc_apart.proofs.Merged.{same-channel}
use Rattle.tc_apart.proofs.laws.channels_of_a_station_do_not_touch_each_other.Goals as goal

pub returns : goal.returns
returns c = same-channel
