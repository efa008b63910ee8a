use Rattle.tc_channel.proofs.Names.{run_within}
use Rattle.tc_channel.proofs.Sound.{state-sound, frame-enters}
use Rattle.tc_channel.proofs.laws.each_frame_has_a_step.Goals as goal

pub returns : goal.returns
returns c = λ limits s journal octets whole. (whole, frame-enters c.each_arrival_has_an_entry.ensures.frame s (run_within limits s journal) (state-sound limits s journal) octets)
