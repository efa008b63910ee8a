use Rattle.tc_desk.proofs.Alone.{only-maker}
use Rattle.tc_desk.proofs.laws.the_only_operator_made_the_whole_journal.Goals as goal

pub returns : goal.returns
returns c = only-maker
