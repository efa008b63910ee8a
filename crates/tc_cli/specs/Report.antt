-- The channels of a closed station, in the order of the final report.
use Rattle.std.specs.Prelude.{List, IsPermutation}
use Rattle.tc_channel.specs.Journal.{History}
use Rattle.tc_rack.specs.Report.{AreNonDecreasing}
use Rattle.tc_station.specs.Roster.{Roster}
use Rattle.tc_station.specs.Tally.{AtStation}
use Rattle.tc_station.specs.Together.{AreClosedTogether}

-- these are all channels of a station that was closed together with these operators, in rising order of their ids
pub record IsClosedReport (station : Roster) (operators : List AtStation) (channels : List History) : Type 0 where
  pub there : List History
  pub closed : AreClosedTogether station operators there
  pub all : IsPermutation there channels
  pub ordered : AreNonDecreasing channels
