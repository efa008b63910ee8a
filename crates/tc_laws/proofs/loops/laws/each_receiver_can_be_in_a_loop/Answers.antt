use Rattle.tc_laws.proofs.LoopsLemmas.Begun.{begins-so, begins-free}
use Rattle.tc_laws.proofs.loops.laws.each_receiver_can_be_in_a_loop.Goals as goal

pub returns-clause-begins : goal.returns-clause-begins
returns-clause-begins c = begins-so

pub returns-clause-state : goal.returns-clause-state
returns-clause-state c = begins-free
