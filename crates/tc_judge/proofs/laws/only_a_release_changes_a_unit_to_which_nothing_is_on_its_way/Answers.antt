use Rattle.tc_judge.proofs.Silent.{nothing-comes}
use Rattle.tc_judge.proofs.laws.only_a_release_changes_a_unit_to_which_nothing_is_on_its_way.Goals as goal

pub returns : goal.returns
returns c = nothing-comes
