use Rattle.tc_laws.proofs.LoopsLemmas.Sharp.{locks-out}
use Rattle.tc_laws.proofs.loops.laws.a_wider_window_can_lock_out.Goals as goal

pub returns : goal.returns
returns c = locks-out
