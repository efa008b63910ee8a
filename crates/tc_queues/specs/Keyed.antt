-- Queues in rooms, with and without the items that are staged in them.
use Rattle.std.specs.Prelude.{◌≡◌, ◌≤◌, ◌<◌, ◌++◌, ℕ, Bool, true, false, List, [], ◌∷◌, length, map, Option, IfSome}
use Rattle.std.specs.List.{AllByRecursion}
use Rattle.circular_buffer.specs.Buffer.{buffer}
use Rattle.tc_queues.specs.StoredQueues.{StoredQueue, with_items}
use Rattle.tc_queues.specs.Rooms.{Slotted, slotted}

-- the view that a contract has of a queue: its key, and the items in its slots
pub record Keyed : Type 0 where
  pub key : ℕ
  pub slots : Slotted

-- a queue without its rooms and its staged items
abbrev pub ring_in : Keyed → StoredQueue
ring_in q = record { key = q.key; ring = q.slots.ring }

abbrev pub rings_in : List Keyed → List StoredQueue
rings_in queues = map ring_in queues

-- a queue without its rooms, with the staged items behind those that wait
abbrev pub staged_in : Keyed → StoredQueue
staged_in q = record { key = q.key; ring = buffer (q.slots.ring.items ++ q.slots.staged) q.slots.ring.capacity }

abbrev pub all_staged_in : List Keyed → List StoredQueue
all_staged_in queues = map staged_in queues

-- for each queue, the largest number of octets that an item may have
abbrev pub room_sizes : List Keyed → List ℕ
room_sizes queues = map (λ (q : Keyed). q.slots.size) queues

-- the octets are no longer than any of the sizes
abbrev pub Fit : List ℕ → List ℕ → Type 0
Fit octets sizes = AllByRecursion (λ (n : ℕ). length octets ≤ n) sizes

-- a unit, if any, is no longer than any of the sizes
abbrev pub FitsIn : List ℕ → Option (List ℕ) → Type 0
FitsIn sizes unit = IfSome unit (λ octets. Fit octets sizes)

-- nothing is staged in any of the queues
abbrev pub AreCommitted : List Keyed → Type 0
AreCommitted queues = AllByRecursion (λ (q : Keyed). q.slots.staged ≡ []) queues

-- an item was put at the end of a ring if `place` is true, and otherwise that ring is full
pub record IsPutBehind (item : List ℕ) (old new : StoredQueue) (place : Bool) : Type 0 where
  pub done : place ≡ true → (new ≡ with_items old (item ∷ [])) × (length old.ring.items < old.ring.capacity)
  pub full : place ≡ false → (new ≡ old) × (old.ring.capacity ≤ length old.ring.items)

-- the queue after its staged items were committed, and the queue after they were rolled back
abbrev pub committed : Keyed → Keyed
committed q = record q { slots = slotted (q.slots.ring.items ++ q.slots.staged) q.slots.ring.capacity [] q.slots.size }

abbrev pub roll_back : Keyed → Keyed
roll_back q = record q { slots = slotted q.slots.ring.items q.slots.ring.capacity [] q.slots.size }
