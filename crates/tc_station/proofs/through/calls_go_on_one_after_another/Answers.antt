use Rattle.tc_station.proofs.GoneOn.{on_by_both, on_by_nothing}
use Rattle.tc_station.proofs.through.calls_go_on_one_after_another.Goals as goal

pub returns-clause-none : goal.returns-clause-none
returns-clause-none c = on_by_nothing

pub returns-clause-both : goal.returns-clause-both
returns-clause-both c = on_by_both
