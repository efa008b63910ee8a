-- The run of a stream in its room, and the octets that a last segment staged behind it.
use Rattle.std.specs.Prelude.{◌≤◌, ℕ, Bool, false, List, take, length, Option, Some, None, if◌then◌else◌}
use Rattle.tc_packet.specs.Reassembly.{largest_unit}
use Rattle.tc_packet.specs.Room.{Contents}

-- whether a run is open, its number of octets, and its room
pub record OpenRun : Type 0 where
  pub is_open : Bool
  pub count : ℕ
  pub room : Contents

-- the octets of the run, if one is open
abbrev pub open_in : OpenRun → Option (List ℕ)
open_in run = if run.is_open then Some (take run.count run.room.octets) else None

-- a run that is over
abbrev pub closed : OpenRun → OpenRun
closed run = record run { is_open = false }

-- the run is within its room, which is no larger than the largest unit
pub record IsRun (run : OpenRun) : Type 0 where
  pub inside : run.count ≤ length run.room.octets
  pub within : length run.room.octets ≤ run.room.size
  pub small : run.room.size ≤ largest_unit
