use Rattle.tc_laws.proofs.LoopsLemmas.Names.{clcw_within, no_limits, passed_on, refl, run_within, some_of_first}
use Rattle.tc_laws.proofs.LoopsLemmas.Starts.{another, before-loop, each-premise, each-window, known-named, next-not-another, trap-not-another}
use Rattle.tc_laws.proofs.loops.laws.starts_come_to_this.Goals as goal

pub returns : goal.returns
unfolding run_within some_of_first passed_on no_limits clcw_within
returns c = record {
  trap_says = refl;
  trap_known = refl;
  trap_names_one_of_before = trap-not-another;
  trap_accepted = refl;
  met = each-premise;
  plain_met = each-window;
  before_met = before-loop;
  another_met = another;
  known_named = known-named;
  next_not_named = next-not-another;
  met_known = refl;
  met_accepted = refl;
}
