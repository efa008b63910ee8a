-- The items that the queues admit from a unit: the unit itself if its MAP is chosen (CCSDS 232.0-B, the MAP Access
-- Service), otherwise each of its telecommand packets for whose APID there is a queue. An item is admitted only if its
-- queue has room. The capacities of the queues are a rule of this receiver, and not of the standard.
use Rattle.std.specs.Prelude.{ℕ, ◌+◌, ◌-◌, Bool, true, false, List, [], ◌∷◌, ◌++◌, length, map, filter, take, sum_by, ◌==◌, ◌&&◌, Option, Some, None, is_some}
use Rattle.tc_packet.specs.SpacePacket.{apid_of, is_telecommand, packets_of}
use Rattle.tc_packet.specs.Segment as segment
use Rattle.tc_queues.specs.ChannelState.{Queue, ChannelState, queue_of}

-- the MAP of a data field that begins with a segment header (CCSDS 232.0-B, 4.1.3.2.2)
abbrev pub map_of : List ℕ → ℕ
map_of field = (segment.header_of field).map

-- whether the MAP of this data field is chosen, and so has a unit queue
abbrev pub is_chosen : ChannelState → List ℕ → Bool
is_chosen state field = is_some (queue_of (map_of field) state.units)

-- The packets that a unit offers to the queues. There are none if no unit was ended or its MAP is chosen. Otherwise they
-- are the packets that the unit is cut into.
abbrev pub packets_offered : Option (List ℕ) → Bool → List (List ℕ)
packets_offered None chosen = []
packets_offered (Some unit) true = []
packets_offered (Some unit) false = packets_of unit

-- the units that are offered to the queues: only a unit that was ended on a chosen MAP
abbrev pub units_offered : Option (List ℕ) → Bool → List (List ℕ)
units_offered None chosen = []
units_offered (Some unit) true = unit ∷ []
units_offered (Some unit) false = []

-- whether the packet queue with this APID as its key wants the packet
abbrev pub is_for : ℕ → List ℕ → Bool
is_for apid packet = is_telecommand packet && apid_of packet == apid

-- whether the unit queue with the key `key` wants a unit of the MAP `map_id`
abbrev pub is_of_map : ℕ → ℕ → List ℕ → Bool
is_of_map map_id key unit = key == map_id

-- the number of items that a queue can hold besides those that wait
abbrev pub room_of : Queue → ℕ
room_of q = q.capacity - (length q.admitted - q.taken)

-- the items that a queue wants by its key, up to the number that it has room for
abbrev pub share_of : (ℕ → List ℕ → Bool) → List (List ℕ) → Queue → List (List ℕ)
share_of wanted items q = take (room_of q) (filter (wanted q.key) items)

-- a queue with its share of the items
abbrev pub with_share : (ℕ → List ℕ → Bool) → List (List ℕ) → Queue → Queue
with_share wanted items q = record q { admitted = q.admitted ++ share_of wanted items q }

-- each queue with its share of the items
abbrev pub with_shares : (ℕ → List ℕ → Bool) → List (List ℕ) → List Queue → List Queue
with_shares wanted items queues = map (with_share wanted items) queues

-- the number of items that the queues take together
abbrev pub queued_of : (ℕ → List ℕ → Bool) → List (List ℕ) → List Queue → ℕ
queued_of wanted items queues = sum_by (λ q. length (share_of wanted items q)) queues

-- the state after the unit that a data field ended, if any, was offered to the queues
abbrev pub offered : List ℕ → Option (List ℕ) → ChannelState → ChannelState
offered field unit state = record state {
  queues = with_shares is_for (packets_offered unit (is_chosen state field)) state.queues;
  units = with_shares (is_of_map (map_of field)) (units_offered unit (is_chosen state field)) state.units;
}

-- the number of packets and units that are queued when this unit is offered
abbrev pub count_queued : List ℕ → Option (List ℕ) → ChannelState → ℕ
count_queued field unit state =
    queued_of is_for (packets_offered unit (is_chosen state field)) state.queues
    + queued_of (is_of_map (map_of field)) (units_offered unit (is_chosen state field)) state.units
