-- The definitions that contracts use for items that wait in rooms.
use Rattle.std.specs.Prelude.{◌≡◌, ◌≤◌, ◌<◌, ◌+◌, ◌^◌, ◌++◌, ◌∷◌, [], ℕ, Bool, true, false, List, length, map, take, drop}
use Rattle.std.specs.List.{AllByRecursion}
use Rattle.circular_buffer.specs.Buffer.{Buffer, buffer}
use Rattle.tc_packet.specs.Room.{Contents}

abbrev pub octets_of : Contents → List ℕ
octets_of room = room.octets

-- items that wait in rooms of one size, and items that are staged behind them and don't count yet
pub record Slotted : Type 0 where
  pub ring : Buffer (List ℕ)
  pub staged : List (List ℕ)
  pub size : ℕ

abbrev pub slotted : List (List ℕ) → ℕ → List (List ℕ) → ℕ → Slotted
slotted items capacity behind size = record { ring = buffer items capacity; staged = behind; size = size }

abbrev pub HaveSize : ℕ → List Contents → Type 0
HaveSize size rooms = AllByRecursion (λ (r : Contents). r.size ≡ size) rooms

-- a ring of this capacity has a room at each of its places
pub record IsFull (capacity : ℕ) (rooms : List Contents) : Type 0 where
  pub full : length rooms ≡ capacity
  pub small : capacity < 2 ^ 63

-- there are `places` rooms of one size, enough for `waiting` items that wait and `count` items that are staged
pub record AreSlots (places waiting count size : ℕ) (rooms : List Contents) : Type 0 where
  pub full : length rooms ≡ places
  pub small : places < 2 ^ 63
  pub within : waiting + count ≤ places
  pub sizes : HaveSize size rooms

abbrev pub seen : ℕ → ℕ → ℕ → ℕ → List Contents → Slotted
seen places waiting count size rooms = slotted (map octets_of (take waiting rooms)) places (map octets_of (take count (drop waiting rooms))) size

-- an item was staged behind the others if `place` is true, and otherwise there was no place for it
pub record IsStagedBehind (octets : List ℕ) (old new : Slotted) (place : Bool) : Type 0 where
  pub done : place ≡ true → (new ≡ slotted old.ring.items old.ring.capacity (old.staged ++ octets ∷ []) old.size) × (length old.ring.items + length old.staged < old.ring.capacity)
  pub full : place ≡ false → (new ≡ old) × (old.ring.capacity ≤ length old.ring.items + length old.staged)

-- If `place` is true, an item was put behind those that wait, and nothing is staged. Otherwise there was no place for
-- the item.
pub record IsPut (octets : List ℕ) (old new : Slotted) (place : Bool) : Type 0 where
  pub done : place ≡ true → (new ≡ slotted (old.ring.items ++ octets ∷ []) old.ring.capacity [] old.size) × (length old.ring.items < old.ring.capacity)
  pub full : place ≡ false → (new ≡ old) × (old.ring.capacity ≤ length old.ring.items)
