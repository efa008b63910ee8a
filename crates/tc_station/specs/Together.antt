-- The relation of a station's channels to its operators when they are closed together, and the refusals when they
-- aren't.
use Rattle.std.specs.Prelude.{◌<◌, ◌≤◌, ◌⊎◌, ◌-◌, ◌^◌, ℕ, List, length, map}
use Rattle.logged_lock.specs.Log.{total_made}
use Rattle.tc_channel.specs.Journal.{History}
use Rattle.tc_desk.specs.Log.{AtLock, accounts_of}
use Rattle.tc_desk.specs.Together.{AreClosed, IsClosingRefusal, column}
use Rattle.tc_desk.specs.declared.together.Refusal.{Refusal}
use Rattle.tc_station.specs.Roster.{Roster, AreOwnedDesksOf}
use Rattle.tc_station.specs.Tally.{AtStation}

abbrev pub operator_lists_of : List AtStation → List (List AtLock)
operator_lists_of operators = map (λ (o : AtStation). o.desks) operators

-- The journal of each channel is a merge of the events that these operators made at its desk. The moment that each
-- operator had seen is a beginning of the journal, and the channel's settings are those of the desk.
abbrev pub AreClosedTogether : Roster → List AtStation → List History → Type 0
AreClosedTogether station operators closed = (owned_desks : List AtLock) × AreOwnedDesksOf station owned_desks × AreClosed owned_desks (operator_lists_of operators) closed

-- This is the reason why the channels weren't closed together. If the reason is an imbalance, there are moments of the
-- desks, one of each desk, at which one of the desks wasn't balanced.
abbrev pub IsNotClosedTogether : Roster → List AtStation → Refusal → Type 0
IsNotClosedTogether station operators refusal = (owned_desks : List AtLock) × AreOwnedDesksOf station owned_desks × IsClosingRefusal owned_desks (operator_lists_of operators) refusal

-- There is a cause of an imbalance. Either not all operators that the station issued are given, or the given operators
-- have made at least 2^64 - 1 events of one channel.
abbrev pub IsCauseAtStation : Roster → List AtStation → Type 0
IsCauseAtStation station operators = (length operators < station.issued) ⊎ ((place : ℕ) × (2 ^ 64 - 1 ≤ total_made (accounts_of (column place (operator_lists_of operators)))))
