use Rattle.tc_station.proofs.Names.{take, HasGoneOnAtEach, IsOurs, KnowsTheSame, tally, AreMade, AreDone}
use Rattle.tc_station.proofs.station.StationOf.do_list.Given as goal

abbrev pub invariant-loop-job : goal.invariant-loop-job
invariant-loop-job g l =
    IsOurs l.self l.operator
    × KnowsTheSame l.fn.operator l.operator
    × AreDone l.self l.list.vcid (take l.job-index l.list.jobs) (tally l.fn.operator) (tally l.operator)
    × AreMade l.self l.list.vcid (take l.job-index l.list.jobs) l.fn.operator l.operator
    × HasGoneOnAtEach l.fn.operator l.operator
