-- The delivery of a unit to the queues, whole or packet by packet.
use Rattle.std.specs.Prelude.{◌≡◌, ℕ, ◌+◌, is_some, List, ◌∷◌, [], length, map, get_or, ◌<◌, Bool, true, false, ◌⊎◌, Option, Some, ◌-◌, nat_lt, None}
use Rattle.std.specs.List.{AllByRecursion}
use Rattle.tc_packet.specs.SpacePacket.{packets_of, rest_of}
use Rattle.tc_queues.specs.Admission.{is_for, is_of_map, packets_offered, units_offered}
use Rattle.tc_queues.specs.StoredQueues.{StoredQueue, Placed, copies_from, put, put_all, room_in, placed, queue_for, IsUnderWay, AreShares}
use Rattle.tc_queues.specs.declared.reply.Delivery.{Delivery}
use Rattle.tc_queues.specs.Keyed.{Keyed}

-- the delivery when no unit was ended
abbrev pub nothing : Delivery
nothing = record { queued = 0; dropped = 0; rest = false }

-- The delivery of a unit of which `queued` items were queued. On a chosen MAP the only item is the unit itself. On
-- another MAP the items are its packets.
abbrev pub delivered : Option (List ℕ) → Bool → ℕ → Delivery
delivered None chosen queued = nothing
delivered (Some unit) true queued = record { queued = queued; dropped = 1 - queued; rest = false }
delivered (Some unit) false queued = record { queued = queued; dropped = length (packets_of unit) - queued; rest = nat_lt 0 (length (rest_of unit)) }

-- A pass over the packets `all` is under way, and the packets `left` remain. `now` are the queues `base` with the items
-- that were put into them so far, and `queued` is the number of these items.
pub record IsOnItsWay (base : List StoredQueue) (left all : List (List ℕ)) (queued : ℕ) (now : List StoredQueue) : Type 0 where
  pub made : List Placed
  pub free : List ℕ
  pub way : IsUnderWay base left all made free
  pub now_is : now ≡ put_all base made
  pub count : queued ≡ length made

-- each packet of a unit was put into the queue that wants it, or was dropped because there is no room or no queue for it
pub record ArePut (unit : List ℕ) (old new : List StoredQueue) (delivery : Delivery) : Type 0 where
  pub made : List Placed
  pub shares : AreShares is_for (packets_of unit) old made
  pub new_is : new ≡ put_all old made
  pub delivery_is : delivery ≡ delivered (Some unit) false (length made)

-- a unit of this MAP was put whole into its queue, or was dropped because there is no room or no queue for it
pub record IsPutWhole (map_id : ℕ) (unit : List ℕ) (old new : List StoredQueue) (delivery : Delivery) : Type 0 where
  pub made : Option Placed
  pub whole : placed made ≡ copies_from (is_of_map map_id) 0 (unit ∷ []) old
  pub new_is : new ≡ put_all old (placed made)
  pub delivery_is : delivery ≡ delivered (Some unit) true (length (placed made))

-- a unit, if any, is delivered: whole if its MAP is chosen, otherwise as its packets
pub record IsDelivered (map_id : ℕ) (unit : Option (List ℕ)) (queues later units later_units : List StoredQueue) (delivery : Delivery) : Type 0 where
  pub made : List Placed
  pub whole : Option Placed
  pub shares : AreShares is_for (packets_offered unit (is_some (queue_for map_id units))) queues made
  pub whole_is : placed whole ≡ copies_from (is_of_map map_id) 0 (units_offered unit (is_some (queue_for map_id units))) units
  pub delivery_is : delivery ≡ delivered unit (is_some (queue_for map_id units)) (length made + length (placed whole))
  pub queues_are : later ≡ put_all queues made
  pub units_are : later_units ≡ put_all units (placed whole)

-- the room that the ring at this place has
abbrev pub room_at : ℕ → List StoredQueue → ℕ
room_at place rings = get_or (map room_in rings) place 0

-- an item was put at the end of the ring at this place if `room` is true, and otherwise that ring is full
pub record IsPutAt (place : ℕ) (item : List ℕ) (old new : List StoredQueue) (room : Bool) : Type 0 where
  pub done : room ≡ true → (new ≡ put old place item) × (0 < room_at place old)
  pub full : room ≡ false → (new ≡ old) × (room_at place old ≡ 0)

-- the packet queue with this key wants at least one of the packets
abbrev pub IsAmong : ℕ → List (List ℕ) → Type 0
IsAmong key [] = ⊥
IsAmong key (packet ∷ packets) = (is_for key packet ≡ true) ⊎ IsAmong key packets

-- items are staged only in queues that want at least one of these packets
abbrev pub AreStagedOf : List (List ℕ) → List Keyed → Type 0
AreStagedOf packets queues = AllByRecursion (λ (q : Keyed). (q.slots.staged ≡ []) ⊎ IsAmong q.key packets) queues
