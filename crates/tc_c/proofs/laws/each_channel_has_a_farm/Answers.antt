use Rattle.tc_c.proofs.Farms.{starts-farm, run-farm}
use Rattle.tc_c.proofs.laws.each_channel_has_a_farm.Goals as goal

pub returns-clause-start : goal.returns-clause-start
returns-clause-start c = starts-farm

pub returns-clause-run : goal.returns-clause-run
returns-clause-run c = run-farm c.a_step_leaves_a_farm.ensures
