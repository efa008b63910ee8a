use Rattle.tc_channel.proofs.Eras.{all-sent}
use Rattle.tc_channel.proofs.laws.what_was_sent_is_accepted_once_and_in_order.Goals as goal

pub returns : goal.returns
returns c = all-sent
