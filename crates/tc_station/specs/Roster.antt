-- The view of a station in contracts: its spacecraft id, the ids of its virtual channels in order, the number of
-- operators that it has issued, and, for the desk of each channel, its lock and its constant parts.
use Rattle.std.specs.Prelude.{◌≡◌, ◌==◌, ℕ, List, All, map, position, slice_get, Some}
use Rattle.tc_queues.specs.declared.settings.Settings.{Settings}
use Rattle.tc_desk.specs.{TableId}
use Rattle.tc_desk.specs.Log.{Identity, AtLock}
use Rattle.tc_desk.specs.Together.{locks_of, heads_of, issued_of}

pub record Roster : Type 0 where
  pub scid : ℕ
  pub vcids : List ℕ
  pub issued : ℕ
  pub locks : List TableId
  pub heads : List Identity

-- the settings of the station's channels
abbrev pub settings_in : Roster → List Settings
settings_in station = map (λ (h : Identity). h.settings) station.heads

-- the channel with this id has this place
abbrev pub IsPlace : Roster → ℕ → ℕ → Type 0
IsPlace station vcid place = position (λ v. v == vcid) station.vcids ≡ Some place

-- these are the constant parts of the desk whose channel has this id
abbrev pub IsDeskOf : Roster → ℕ → Identity → Type 0
IsDeskOf station vcid head = (place : ℕ) × IsPlace station vcid place × (slice_get station.heads place ≡ Some head)

-- each of these owned desks has issued `n` operators
abbrev pub HaveIssued : ℕ → List AtLock → Type 0
HaveIssued n owned_desks = All (λ (i : ℕ). i ≡ n) (issued_of owned_desks)

-- these are the owned desks of the station, which have issued its operators
abbrev pub AreOwnedDesksOf : Roster → List AtLock → Type 0
AreOwnedDesksOf station owned_desks = (locks_of owned_desks ≡ station.locks) × (heads_of owned_desks ≡ station.heads) × HaveIssued station.issued owned_desks
