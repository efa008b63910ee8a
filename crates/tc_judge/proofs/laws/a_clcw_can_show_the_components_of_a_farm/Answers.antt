use Rattle.tc_judge.proofs.Flags.{shown-after}
use Rattle.tc_judge.proofs.laws.a_clcw_can_show_the_components_of_a_farm.Goals as goal

pub returns-clause-after : goal.returns-clause-after
returns-clause-after c = shown-after
