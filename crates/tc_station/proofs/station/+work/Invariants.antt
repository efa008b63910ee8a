use Rattle.tc_station.proofs.Names.{length, ◌+◌, ◌-◌, ◌*◌}
use Rattle.tc_station.proofs.station.+work.Given as goal

abbrev pub decreases-StationOf::work_all : goal.decreases-StationOf::work_all
decreases-StationOf::work_all g l = 4 * length l.lists.now

abbrev pub decreases-StationOf::work_halves : goal.decreases-StationOf::work_halves
decreases-StationOf::work_halves g l = 4 * (length l.front_lists.now + length l.back_lists.now) - 1

abbrev pub decreases-StationOf::work_halves-first : goal.decreases-StationOf::work_halves-first
decreases-StationOf::work_halves-first g l = 4 * length l.front_lists.now + 1

abbrev pub decreases-StationOf::work_halves-second : goal.decreases-StationOf::work_halves-second
decreases-StationOf::work_halves-second g l = 4 * length l.back_lists.now + 1
