-- The queues as the code stores them, and the items that a call puts into them.
use Rattle.std.specs.Prelude.{◌≡◌, ◌≢◌, ℕ, zero, suc, ◌-◌, ◌+◌, ◌<◌, Bool, List, [], ◌∷◌, ◌++◌, length, map, filter, take, drop, Option, Some, None, option_map, slice_get, ◌==◌, if◌then◌else◌}
use Rattle.std.specs.List.{AllByRecursion, sum_by}
use Rattle.std.specs.Option.{option_and_then}
use Rattle.circular_buffer.specs.Buffer.{Buffer, buffer as ring_of, keep_last}
use Rattle.tc_queues.specs.ChannelState.{Queue, waiting}
use Rattle.tc_queues.specs.Admission.{is_for}

-- a queue: its key, which is the APID of an application or a MAP, and the ring of the items that wait
pub record StoredQueue : Type 0 where
  pub key : ℕ
  pub ring : Buffer (List ℕ)

-- an item, and the place of the queue that it is put into
pub record Placed : Type 0 where
  pub place : ℕ
  pub item : List ℕ

-- the stored form of a queue of the state
abbrev pub stored : Queue → StoredQueue
stored q = record { key = q.key; ring = ring_of (waiting q) q.capacity }

-- the keys of the queues, in their order
abbrev pub keys_of : List StoredQueue → List ℕ
keys_of queues = map (λ (q : StoredQueue). q.key) queues

-- no two of these numbers are equal
abbrev pub AreDistinct : List ℕ → Type 0
AreDistinct [] = Unit {0}
AreDistinct (a ∷ rest) = AllByRecursion (λ b. a ≢ b) rest × AreDistinct rest

-- the number of items that a queue can hold besides those that wait
abbrev pub room_in : StoredQueue → ℕ
room_in q = q.ring.capacity - length q.ring.items

-- the items that a queue wants by its key, up to the number that it has room for
abbrev pub share : (ℕ → List ℕ → Bool) → List (List ℕ) → StoredQueue → List (List ℕ)
share wanted items q = take (room_in q) (filter (wanted q.key) items)

-- a queue with more items at its end
abbrev pub with_items : StoredQueue → List (List ℕ) → StoredQueue
with_items q items = record q { ring = ring_of (q.ring.items ++ items) q.ring.capacity }

-- each queue with its share of the items put at its end
abbrev pub shared : (ℕ → List ℕ → Bool) → List (List ℕ) → List StoredQueue → List StoredQueue
shared wanted items queues = map (λ (q : StoredQueue). with_items q (share wanted items q)) queues

-- the number of items that the queues take together
abbrev pub shares_in : (ℕ → List ℕ → Bool) → List (List ℕ) → List StoredQueue → ℕ
shares_in wanted items queues = sum_by length (map (share wanted items) queues)

-- an item for the queue at this place
abbrev pub copied_to : ℕ → List ℕ → Placed
copied_to place item = record { place = place; item = item }

-- The items that each queue takes, queue by queue, each with the place of its queue. The first queue is at `place`.
abbrev pub copies_from : (ℕ → List ℕ → Bool) → ℕ → List (List ℕ) → List StoredQueue → List Placed
copies_from wanted place items [] = []
copies_from wanted place items (q ∷ qs) = map (copied_to place) (share wanted items q) ++ copies_from wanted (place + 1) items qs

-- a queue with one more item, which pushes the oldest one out of a full queue
abbrev pub longer : StoredQueue → List ℕ → StoredQueue
longer q item = record q { ring = ring_of (keep_last q.ring.capacity (q.ring.items ++ item ∷ [])) q.ring.capacity }

-- the queues, with one more item in the queue at this place if there is one
abbrev pub put : List StoredQueue → ℕ → List ℕ → List StoredQueue
put [] place item = []
put (q ∷ qs) zero item = longer q item ∷ qs
put (q ∷ qs) (suc place) item = q ∷ put qs place item

-- the queues after the items were put into them, one after the other
abbrev pub put_all : List StoredQueue → List Placed → List StoredQueue
put_all qs [] = qs
put_all qs (one ∷ others) = put_all (put qs one.place one.item) others

-- each item has the place of one of the `count` queues
abbrev pub HavePlaces : ℕ → List Placed → Type 0
HavePlaces count copies = AllByRecursion (λ (one : Placed). one.place < count) copies

-- the first queue with a key, if any
abbrev pub queue_for : ℕ → List StoredQueue → Option StoredQueue
queue_for key [] = None
queue_for key (q ∷ qs) = if q.key == key then Some q else queue_for key qs

-- the items that wait in the first queue with a key, the oldest first, or `None` if no queue has the key
abbrev pub items_for : ℕ → List StoredQueue → Option (List (List ℕ))
items_for key queues = option_map (λ (q : StoredQueue). q.ring.items) (queue_for key queues)

-- the oldest item of the first queue with a key, if there is such a queue and an item waits
abbrev pub oldest_for : ℕ → List StoredQueue → Option (List ℕ)
oldest_for key queues = option_and_then (λ items. slice_get items 0) (items_for key queues)

-- a queue without its oldest item
abbrev pub shorter : StoredQueue → StoredQueue
shorter q = record q { ring = ring_of (drop 1 q.ring.items) q.ring.capacity }

-- the queues, with the oldest item dropped from the first queue that has this key
abbrev pub popped : ℕ → List StoredQueue → List StoredQueue
popped key [] = []
popped key (q ∷ qs) = if q.key == key then shorter q ∷ qs else q ∷ popped key qs

-- the item that is put into a queue, if any, as a list
abbrev pub placed : Option Placed → List Placed
placed None = []
placed (Some one) = one ∷ []

-- the number of APIDs, which have 11 bits (CCSDS 133.0-B, 4.1.3.3)
abbrev pub apid_count : ℕ
apid_count = 2048

-- when the copies are put into their queues, each queue has its share of the items
pub record AreShares (wanted : ℕ → List ℕ → Bool) (items : List (List ℕ)) (queues : List StoredQueue) (made : List Placed) : Type 0 where
  pub places : HavePlaces (length queues) made
  pub put : put_all queues made ≡ shared wanted items queues
  pub count : length made ≡ shares_in wanted items queues

-- A pass over the packets `all` is under way, and the packets `left` remain. `made` are the copies so far, and `free` is
-- the room that they leave in each queue. If the queues now take their shares of `left`, the result is as if they had
-- taken their shares of `all` at the start.
pub record IsUnderWay (queues : List StoredQueue) (left all : List (List ℕ)) (made : List Placed) (free : List ℕ) : Type 0 where
  pub places : HavePlaces (length queues) made
  pub keys : keys_of (put_all queues made) ≡ keys_of queues
  pub rooms : free ≡ map room_in (put_all queues made)
  pub put : shared is_for left (put_all queues made) ≡ shared is_for all queues
  pub count : length made + shares_in is_for left (put_all queues made) ≡ shares_in is_for all queues
