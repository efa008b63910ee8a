use Rattle.tc_laws.proofs.LoopsLemmas.Names.{clcw_within, refl, run_within, some_of_first}
use Rattle.tc_laws.proofs.LoopsLemmas.Lost.{lost-loop}
use Rattle.tc_laws.proofs.loops.laws.a_session_comes_to_this.Goals as goal

pub returns : goal.returns
unfolding run_within some_of_first clcw_within
returns c = record { met = lost-loop; none_accepted = refl; one_accepted = refl; none_known = refl; reported = refl; one_known = refl; two_begun = refl }
