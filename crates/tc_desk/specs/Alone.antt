-- An operator that alone has made events at a desk.
use Rattle.std.specs.Prelude.{◌≡◌, ◌≤◌, ℕ, suc, List, [], ◌∷◌, length}
use Rattle.tc_channel.specs.declared.event.Event.{Event}
use Rattle.tc_desk.specs.Log.{Own}

-- the events with their places, the first of which has the number `at`
abbrev pub with_places : ℕ → List Event → List (ℕ × Event)
with_places at [] = []
with_places at (e ∷ es) = (at, e) ∷ with_places (suc at) es

-- the operator has made each event that it has seen
abbrev pub HasMadeAll : Own → Type 0
HasMadeAll own = own.made ≡ with_places 0 own.seen.entries

-- the operator has seen at least as many events as it has made
abbrev pub HasSeenItsOwn : Own → Type 0
HasSeenItsOwn own = length own.made ≤ length own.seen.entries
