-- The relation between the parts of a channel and the run of its journal.
use Rattle.std.specs.Prelude.{◌≡◌, ◌≢◌, ℕ, ◌<◌, Bool, List, [], ◌∷◌, ◌++◌, Option, Some, None, map, ◌==◌, ◌&&◌, if◌then◌else◌}
use Rattle.circular_buffer.specs.Buffer.{Buffer}
use Rattle.tc_link.specs.Farm.{Machine}
use Rattle.tc_link.specs.declared.Act.{Act}
use Rattle.tc_link.specs.declared.Kind.{Kind}
use Rattle.tc_link.specs.declared.Kind.TheVariants as kinds
use Rattle.tc_packet.specs.declared.Service.{Service}
use Rattle.tc_packet.specs.declared.Service.TheVariants.{Bd}
use Rattle.tc_packet.specs.Reassembly.{OpenRuns, Passed, at_most, stream, run_at, run_left, place_of, stream_place, unit_ended}
use Rattle.tc_queues.specs.declared.settings.Settings.{Settings}
use Rattle.tc_queues.specs.Settings.{IsAllowed}
use Rattle.tc_channel.specs.declared.event.Event.{Event}
use Rattle.tc_queues.specs.ChannelState.{buffer}
use Rattle.tc_queues.specs.StoredQueues.{stored, StoredQueue}
use Rattle.tc_channel.specs.Run.{run_within, IsLawfulWithin}

-- The run stored at this place is the one that the fields leave open. If that run is longer than the limit, no run is
-- stored.
abbrev pub LeaveAtMost : ℕ → List (List ℕ) → OpenRuns → ℕ → Type 0
LeaveAtMost limit fields open_runs place = at_most limit (run_left open_runs.segmented fields) ≡ run_at open_runs.runs place

-- The open run of each stream is the one that the data fields passed so far leave. If that run is longer than the limit
-- of its MAP, the stream has no open run. `headed` is true if data fields have segment headers.
pub record AreRuns (limits : ℕ → ℕ) (open_runs : OpenRuns) (headed : Bool) (passed : List Passed) : Type 0 where
  pub segmented : open_runs.segmented ≡ headed
  pub runs : (service : Service) (map_id : ℕ) → map_id < 64 → LeaveAtMost (limits map_id) (stream service map_id passed) open_runs (place_of service map_id)

-- One more data field was passed to reassembly. If the old run of its stream was the one that some fields leave, the
-- new run is the one that these fields and the new field leave, within the limit. The runs of other streams are
-- unchanged.
pub record FollowsWithin (limit : ℕ) (old new : OpenRuns) (service : Service) (field : List ℕ) : Type 0 where
  pub run : (fields : List (List ℕ)) → LeaveAtMost limit fields old (stream_place service field) → LeaveAtMost limit (fields ++ field ∷ []) new (stream_place service field)
  pub others : (other : ℕ) → other ≢ stream_place service field → run_at new.runs other ≡ run_at old.runs other
  pub segmented : new.segmented ≡ old.segmented

-- The data field of a Type-BD frame is passed on at once. A frame of any other kind leaves all open runs unchanged.
abbrev pub FollowsKindWithin : ℕ → Kind → OpenRuns → OpenRuns → List ℕ → Type 0
FollowsKindWithin limit kinds.Bd old new field = FollowsWithin limit old new Bd field
FollowsKindWithin limit (kinds.Ad ns) old new field = new ≡ old
FollowsKindWithin limit (kinds.Bc command) old new field = new ≡ old
FollowsKindWithin limit kinds.Invalid old new field = new ≡ old

-- `unit` is the unit that a data field ends after any fields that leave the run stored for its stream. It is `None` if
-- the field ends no unit, or if the unit is longer than the limit.
abbrev pub EndsWithin : ℕ → OpenRuns → Service → List ℕ → Option (List ℕ) → Type 0
EndsWithin limit open_runs service field unit = (fields : List (List ℕ)) → LeaveAtMost limit fields open_runs (stream_place service field) → unit ≡ at_most limit (unit_ended open_runs.segmented fields field)

-- `unit` is the unit that a frame ends at once. It is `None` unless the frame is of Type-BD.
abbrev pub EndsAtOnceWithin : ℕ → Kind → OpenRuns → List ℕ → Option (List ℕ) → Type 0
EndsAtOnceWithin limit kinds.Bd open_runs field unit = EndsWithin limit open_runs Bd field unit
EndsAtOnceWithin limit (kinds.Ad ns) open_runs field unit = unit ≡ None
EndsAtOnceWithin limit (kinds.Bc command) open_runs field unit = unit ≡ None
EndsAtOnceWithin limit kinds.Invalid open_runs field unit = unit ≡ None

-- the data field that goes into the buffer: that of an accepted AD frame, and `None` for any other frame
abbrev pub buffered_of : Act → List ℕ → Option (List ℕ)
buffered_of act field = if act.event == 1 && act.accepted then Some field else None

abbrev pub with_field : List (List ℕ) → Option (List ℕ) → List (List ℕ)
with_field fields None = fields
with_field fields (Some field) = fields ++ field ∷ []

-- the parts of a channel: FARM-1, the ring of buffered data fields, the open runs, and the rings of the packet queues
-- and of the unit queues
pub record Inside : Type 0 where
  pub farm : Machine
  pub ring : Buffer (List ℕ)
  pub open_runs : OpenRuns
  pub rings : List StoredQueue
  pub unit_rings : List StoredQueue

-- The settings are allowed, the journal is lawful, and all parts of the channel are those of the journal's run, with a
-- limit for each MAP.
pub record HoldsWithin (limits : ℕ → ℕ) (s : Settings) (journal : List Event) (inside : Inside) : Type 0 where
  pub allowed : IsAllowed s
  pub lawful : IsLawfulWithin limits s journal
  pub width : inside.farm.width ≡ s.width
  pub report : inside.farm.report ≡ (run_within limits s journal).report
  pub capacity : inside.ring.capacity ≡ s.buffer
  pub fields : inside.ring.items ≡ buffer (run_within limits s journal)
  pub runs : AreRuns limits inside.open_runs (run_within limits s journal).segmented (run_within limits s journal).passed
  pub queues : inside.rings ≡ map stored (run_within limits s journal).queues
  pub units : inside.unit_rings ≡ map stored (run_within limits s journal).units
