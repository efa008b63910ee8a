-- The state of a channel: FARM-1's components, two settings, lists from which nothing is ever removed, and counts.
use Rattle.std.specs.Prelude.{ℕ, Bool, List, [], ◌∷◌, length, map, drop, nat_lt, ◌==◌, Option, Some, None, if◌then◌else◌}
use Rattle.tc_link.specs.declared.Report.{Report}
use Rattle.tc_link.specs.Farm.{first_report}
use Rattle.tc_packet.specs.Reassembly.{Passed, largest_unit}
use Rattle.tc_queues.specs.declared.settings.QueueSetting.{QueueSetting}
use Rattle.tc_queues.specs.declared.settings.MapSetting.{MapSetting}
use Rattle.tc_queues.specs.declared.settings.Settings.{Settings}

-- an accepted AD frame: its N(S) and its data field
pub record Accepted : Type 0 where
  pub ns : ℕ
  pub field : List ℕ

-- a queue: its key, its capacity, all items that were ever admitted, and the number of items that were taken
pub record Queue : Type 0 where
  pub key : ℕ
  pub capacity : ℕ
  pub admitted : List (List ℕ)
  pub taken : ℕ

-- The state of a channel: FARM-1's components, whether data fields have segment headers, the largest number of octets
-- in a unit of each MAP, all AD frames ever accepted, the number of those that were released, all data fields ever
-- passed to reassembly, the packet queues, and the unit queues.
pub record ChannelState : Type 0 where
  pub report : Report
  pub segmented : Bool
  pub limit : ℕ → ℕ
  pub accepted : List Accepted
  pub released : ℕ
  pub passed : List Passed
  pub queues : List Queue
  pub units : List Queue

-- a queue with nothing in it
abbrev pub queue_with : ℕ → ℕ → Queue
queue_with key capacity = record { key = key; capacity = capacity; admitted = []; taken = 0 }

-- the empty packet queue of a setting, whose key is the APID
abbrev pub empty_queue : QueueSetting → Queue
empty_queue q = queue_with q.apid q.capacity

-- the empty unit queue of a setting, whose key is the MAP
abbrev pub empty_unit_queue : MapSetting → Queue
empty_unit_queue m = queue_with m.map m.capacity

-- the limit of each MAP on a channel without limits by MAP, which is the size of the largest unit
unfoldable pub no_limits : ℕ → ℕ
no_limits map_id = largest_unit

-- the state of a channel that starts, with a limit for each MAP
abbrev pub first_state_within : (ℕ → ℕ) → Settings → ChannelState
first_state_within limits s = record {
  report = first_report s.first;
  segmented = s.segmented;
  limit = limits;
  accepted = [];
  released = 0;
  passed = [];
  queues = map empty_queue s.queues;
  units = map empty_unit_queue s.maps;
}

-- the data fields that wait in the buffer, the oldest first
abbrev pub buffer : ChannelState → List (List ℕ)
buffer state = map (λ a. a.field) (drop state.released state.accepted)

abbrev pub has_room : Settings → ChannelState → Bool
has_room s state = nat_lt (length (buffer state)) s.buffer

-- the items that wait in a queue, the oldest first
abbrev pub waiting : Queue → List (List ℕ)
waiting q = drop q.taken q.admitted

-- the first queue with a key, if any
abbrev pub queue_of : ℕ → List Queue → Option Queue
queue_of key [] = None
queue_of key (q ∷ qs) = if q.key == key then Some q else queue_of key qs
