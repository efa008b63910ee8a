use Rattle.tc_desk.proofs.Alone.{maker-alone}
use Rattle.tc_desk.proofs.laws.the_only_maker_made_the_whole_journal.Goals as goal

pub returns : goal.returns
returns c = maker-alone
