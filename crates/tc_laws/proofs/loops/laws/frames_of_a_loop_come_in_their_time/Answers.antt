use Rattle.tc_laws.proofs.LoopsLemmas.Counted.{comes}
use Rattle.tc_laws.proofs.loops.laws.frames_of_a_loop_come_in_their_time.Goals as goal

pub returns : goal.returns
returns c = comes
