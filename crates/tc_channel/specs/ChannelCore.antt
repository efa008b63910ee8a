-- The parts of a channel in rooms, and the sizes of the rooms.
use Rattle.std.specs.Prelude.{◌≡◌, ◌<◌, ◌≤◌, ℕ, List, [], ◌∷◌, ◌++◌, min}
use Rattle.std.specs.List.{AllByRecursion}
use Rattle.tc_link.specs.Farm.{Machine}
use Rattle.tc_packet.specs.declared.Service.{Service}
use Rattle.tc_packet.specs.Reassembly.{largest_unit, place_of, stream_count}
use Rattle.tc_queues.specs.Rooms.{Slotted}
use Rattle.tc_packet.specs.Store.{Store, open_runs, limit_at}
use Rattle.tc_queues.specs.declared.settings.Settings.{Settings}
use Rattle.tc_channel.specs.declared.event.Event.{Event}
use Rattle.tc_channel.specs.Channel.{Inside, HoldsWithin}
use Rattle.tc_queues.specs.Memory.{largest_item, largest_field}
use Rattle.tc_queues.specs.Keyed.{Keyed, rings_in, room_sizes, AreCommitted}
use Rattle.tc_queues.specs.StoredQueues.{AreDistinct, keys_of}

-- each stream has the limit of its MAP
abbrev pub HaveLimits : (ℕ → ℕ) → Store → Type 0
HaveLimits limits store = (service : Service) (map_id : ℕ) → map_id < 64 → limit_at store (place_of service map_id) ≡ limits map_id

-- no limit is over the largest unit
abbrev pub AreSmall : Store → Type 0
AreSmall store = (place : ℕ) → place < stream_count → limit_at store place ≤ largest_unit

-- Rooms of these sizes are large enough for the largest unit of each stream. A unit is no longer than the limit of its
-- stream, and on a plain channel no longer than a data field.
abbrev pub AreEnough : Store → List ℕ → Type 0
AreEnough store sizes = (place : ℕ) → place < stream_count → AllByRecursion (λ (n : ℕ). min (limit_at store place) (largest_item store.segmented) ≤ n) sizes

-- a room of this many octets is large enough for the largest unit of each stream
abbrev pub IsEnough : Store → ℕ → Type 0
IsEnough store size = (place : ℕ) → place < stream_count → min (limit_at store place) (largest_item store.segmented) ≤ size

-- A data field can be passed on. No limit is over the largest unit, no two queues have the same key, the rooms are
-- large enough, and nothing is staged in the queues.
pub record CanPassOn (store : Store) (queues units : List Keyed) : Type 0 where
  pub small : AreSmall store
  pub distinct : AreDistinct (keys_of (rings_in queues))
  pub units_distinct : AreDistinct (keys_of (rings_in units))
  pub sizes : AreEnough store (room_sizes queues)
  pub unit_sizes : AreEnough store (room_sizes units)
  pub committed : AreCommitted queues
  pub units_committed : AreCommitted units

-- the limits are unchanged, the rooms are as large as before, and nothing is left staged in the queues
pub record KeepRooms (store : Store) (queues units : List Keyed) (store_new : Store) (queues_new units_new : List Keyed) : Type 0 where
  pub limits_are : (place : ℕ) → limit_at store_new place ≡ limit_at store place
  pub segmented : store_new.segmented ≡ store.segmented
  pub sizes : room_sizes queues_new ≡ room_sizes queues
  pub unit_sizes : room_sizes units_new ≡ room_sizes units
  pub committed : AreCommitted queues_new
  pub units_committed : AreCommitted units_new

-- the parts of a channel with their rooms: FARM-1, the buffer of data fields, the open runs, the packet queues and the
-- unit queues
pub record Parts : Type 0 where
  pub farm : Machine
  pub fields : Slotted
  pub store : Store
  pub queues : List Keyed
  pub units : List Keyed

-- the parts of a channel without their rooms
abbrev pub inside_of : Parts → Inside
inside_of parts = record { farm = parts.farm; ring = parts.fields.ring; open_runs = open_runs parts.store; rings = rings_in parts.queues; unit_rings = rings_in parts.units }

-- all parts are those of the journal's run within these limits, nothing is left staged, and each room is large enough
pub record HoldsInRooms (limits : ℕ → ℕ) (s : Settings) (journal : List Event) (parts : Parts) : Type 0 where
  pub holds : HoldsWithin limits s journal (inside_of parts)
  pub field_size : parts.fields.size ≡ largest_field
  pub fields_committed : parts.fields.staged ≡ []
  pub committed : AreCommitted parts.queues
  pub units_committed : AreCommitted parts.units
  pub limits_are : HaveLimits limits parts.store
  pub small : AreSmall parts.store
  pub sizes : AreEnough parts.store (room_sizes parts.queues)
  pub unit_sizes : AreEnough parts.store (room_sizes parts.units)

-- the parts belong to the run of some journal, with some limits and settings
abbrev pub AreChannelCore : Parts → Type 0
AreChannelCore parts = (limits : ℕ → ℕ) × (s : Settings) × (journal : List Event) × HoldsInRooms limits s journal parts

-- the statement holds for all limits, settings and journals that these parts belong to
abbrev pub WhereverItHolds : Parts → ((ℕ → ℕ) → Settings → List Event → Type 0) → Type 0
WhereverItHolds parts P = (limits : ℕ → ℕ) (s : Settings) (journal : List Event) → HoldsInRooms limits s journal parts → P limits s journal

-- if the old parts belong to a journal, the new ones belong to that journal with this event appended
abbrev pub GoOn : Event → Parts → Parts → Type 0
GoOn event old new = WhereverItHolds old (λ limits s journal. HoldsInRooms limits s (journal ++ event ∷ []) new)

-- if the old parts belong to a journal, the new ones belong to it, too
abbrev pub Stay : Parts → Parts → Type 0
Stay old new = WhereverItHolds old (λ limits s journal. HoldsInRooms limits s journal new)
