use Rattle.tc_laws.proofs.LoopsLemmas.Names.{clcw_within, refl, run_within, some_of_first}
use Rattle.tc_laws.proofs.loops.laws.each_premise_is_needed.Goals as goal

pub returns : goal.returns
unfolding run_within some_of_first clcw_within
returns c = record {
  window_accepted = refl;
  window_begun = refl;
  window_known = refl;
  frames_accepted = refl;
  frames_begun = refl;
  frames_known = refl;
  reports_accepted = refl;
  reports_known = refl;
}
