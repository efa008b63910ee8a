-- Statements about the state after each journal, and about longer journals.
use Rattle.std.specs.Prelude.{◌≡◌, ◌≢◌, ℕ, ◌+◌, ◌-◌, ◌≤◌, Bool, nat_lt, true, false, List, [], ◌∷◌, ◌++◌, length, Any, if◌then◌else◌}
use Rattle.tc_link.specs.declared.State.TheVariants.{S1, S2, S3}
use Rattle.tc_packet.specs.Reassembly.{Passed}
use Rattle.tc_queues.specs.declared.settings.Settings.{Settings}
use Rattle.tc_queues.specs.declared.settings.MapSetting.{MapSetting}
use Rattle.tc_queues.specs.Admission.{map_of}
use Rattle.tc_queues.specs.ChannelState.{ChannelState, Accepted, Queue, has_room}

-- FARM-1's flags agree with its state and with the buffer
pub record IsSound (s : Settings) (state : ChannelState) : Type 0 where
  pub waits : state.report.state ≡ S2 → state.report.wait ≡ true
  pub full : state.report.wait ≡ true → has_room s state ≡ false
  pub never_open : state.report.wait ≡ true → state.report.state ≢ S1
  pub locked : state.report.lockout ≡ true → state.report.state ≡ S3
  pub lockout : state.report.state ≡ S3 → state.report.lockout ≡ true

-- a queue holds no more items than its capacity, and no more items were taken from it than it admitted
pub record KeepsToItsCapacity (q : Queue) : Type 0 where
  pub taken : q.taken ≤ length q.admitted
  pub capacity : length q.admitted ≤ q.capacity + q.taken

-- true if the queue has room for one more item
abbrev pub has_room_for_one : Queue → Bool
has_room_for_one q = nat_lt (length q.admitted - q.taken) q.capacity

-- The queue after one more unit was offered to it. If it had room, the unit is its last item. Otherwise the queue is
-- unchanged.
abbrev pub with_unit : Queue → List ℕ → Queue
with_unit q unit = if has_room_for_one q then record q { admitted = q.admitted ++ unit ∷ [] } else q

-- `new` can be a later state of the queue `old`. It has the key and the capacity of `old`, it has admitted the items of
-- `old` and possibly more after them, and at least as many items were taken.
pub record QueueGrows (old new : Queue) : Type 0 where
  pub key : new.key ≡ old.key
  pub capacity : new.capacity ≡ old.capacity
  pub admitted : (more : List (List ℕ)) × (new.admitted ≡ old.admitted ++ more)
  pub taken : old.taken ≤ new.taken

abbrev pub QueuesGrow : List Queue → List Queue → Type 0
QueuesGrow [] [] = Unit {0}
QueuesGrow (old ∷ olds) (new ∷ news) = QueueGrows old new × QueuesGrow olds news
QueuesGrow [] (new ∷ news) = ⊥
QueuesGrow (old ∷ olds) [] = ⊥

-- `new` can be a later state of the channel `old`: each of its lists begins with the items of that list in `old`, and
-- no count is smaller.
pub record Grows (old new : ChannelState) : Type 0 where
  pub accepted : (more : List Accepted) × (new.accepted ≡ old.accepted ++ more)
  pub released : old.released ≤ new.released
  pub passed : (more : List Passed) × (new.passed ≡ old.passed ++ more)
  pub queues : QueuesGrow old.queues new.queues
  pub units : QueuesGrow old.units new.units

-- the data field is of a chosen MAP
abbrev pub IsOfChosenMap : Settings → List ℕ → Type 0
IsOfChosenMap s field = Any (λ (m : MapSetting). m.map ≡ map_of field) s.maps
