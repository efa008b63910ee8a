-- The channels of a station's watchers.
use Rattle.std.specs.Prelude.{◌≡◌, ◌≢◌, ℕ, List, AllPairs, length, slice_get, Some}
use Rattle.tc_status.specs.Board.{Watching}
use Rattle.tc_station.specs.Moments.{IsWatcherAt}
use Rattle.tc_station.specs.Roster.{Roster, settings_in}
use Rattle.tc_station.specs.StationSettings.{vcids_of}

-- the station's channels have the ids in their settings, in the same order, and all ids are different
pub record IsOrdered (station : Roster) : Type 0 where
  pub named : vcids_of (settings_in station) ≡ station.vcids
  pub distinct : AllPairs (λ (a b : ℕ). a ≢ b) station.vcids

-- each of these watchers belongs to the desk at its own place
abbrev pub AreWatching : Roster → List Watching → Type 0
AreWatching station watchers = (place : ℕ) (w : Watching) → slice_get watchers place ≡ Some w → IsWatcherAt station place w

-- there is one watcher for each channel of the station
abbrev pub AreWatchersOf : Roster → List Watching → Type 0
AreWatchersOf station watchers = (length watchers ≡ length station.heads) × AreWatching station watchers
