use Rattle.tc_packet.proofs.Cuts.{one-front}
use Rattle.tc_packet.proofs.laws.each_input_begins_with_one_packet_at_most.Goals as goal

pub returns : goal.returns
returns c = one-front
