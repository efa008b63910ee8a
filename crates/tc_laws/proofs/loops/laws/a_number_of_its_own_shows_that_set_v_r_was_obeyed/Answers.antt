use Rattle.tc_laws.proofs.LoopsLemmas.Believed.{made-after}
use Rattle.tc_laws.proofs.loops.laws.a_number_of_its_own_shows_that_set_v_r_was_obeyed.Goals as goal

pub returns : goal.returns
returns c = λ s first window frames asked made own k order obeyed before since another here says. made-after s first window frames own k order asked made obeyed here before since another says
