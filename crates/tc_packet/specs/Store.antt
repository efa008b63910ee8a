-- The open runs in their rooms. The size of a room is the limit of its stream.
use Rattle.std.specs.Prelude.{◌≡◌, ◌≤◌, ℕ, Bool, true, false, List, length, map, drop, get_or, set, zero, suc, [], ◌∷◌, Option, Some, None, option_map, slice_get, ◌<◌, IfSome, if◌then◌else◌}
use Rattle.tc_packet.specs.Reassembly.{AreOpenRuns, OpenRuns, at_most, ended_by, largest_unit, stream_count, run_left, run_at}
use Rattle.tc_packet.specs.declared.segment.Part.{Part}
use Rattle.tc_packet.specs.Runs.{next_run}
use Rattle.tc_packet.specs.declared.runs.EndedKind.{EndedKind}
use Rattle.tc_packet.specs.declared.runs.EndedKind.TheVariants as ended_kinds
use Rattle.tc_packet.specs.declared.runs.Ended.{Ended}
use Rattle.tc_packet.specs.declared.runs.Ended.TheVariants.{Nothing, Lying, Joined}
use Rattle.tc_packet.specs.OpenRun.{OpenRun, open_in, closed}

abbrev pub sizes_of : List OpenRun → List ℕ
sizes_of runs = map (λ (r : OpenRun). r.room.size) runs

-- the view of runs in contracts: whether data fields have segment headers, the limit if they have none, and the rooms
pub record Store : Type 0 where
  pub segmented : Bool
  pub plain_limit : ℕ
  pub runs : List OpenRun

-- whether data fields have segment headers, and the open runs
abbrev pub open_runs : Store → OpenRuns
open_runs store = record { segmented = store.segmented; runs = map open_in store.runs }

-- the runs at the first `n` places, with no run at a place past the end of the list
abbrev pub first_runs : ℕ → List (Option (List ℕ)) → List (Option (List ℕ))
first_runs zero runs = []
first_runs (suc n) [] = None ∷ first_runs n []
first_runs (suc n) (run ∷ runs) = run ∷ first_runs n runs

-- The run of each of the 128 streams. If data fields have no segment headers, there are no rooms, and no run is open.
abbrev pub of_streams : OpenRuns → OpenRuns
of_streams opened = record { segmented = opened.segmented; runs = first_runs stream_count opened.runs }

-- the largest number of octets in a unit of a stream
abbrev pub limit_at : Store → ℕ → ℕ
limit_at store place = if store.segmented then get_or (sizes_of store.runs) place 0 else store.plain_limit

-- There is a room for each stream if data fields have segment headers, and otherwise there is no room. The limit of
-- fields without segment headers is at most the largest unit.
pub record IsStore (store : Store) : Type 0 where
  pub streams : store.segmented ≡ true → length store.runs ≡ stream_count
  pub plain : store.segmented ≡ false → length store.runs ≡ 0
  pub plain_limit : store.plain_limit ≤ largest_unit

-- The store of a `Reassembler`: the limit of each stream is the largest unit, and the streams have open runs as
-- `AreOpenRuns` states.
pub record IsUnlimited (store : Store) : Type 0 where
  pub limits : (place : ℕ) → place < stream_count → limit_at store place ≡ largest_unit
  pub runs : AreOpenRuns (of_streams (open_runs store))

-- The run at this place is the run that the fields leave, if they leave one within the limit. Otherwise no run is open
-- at this place.
abbrev pub LeaveWithin : List (List ℕ) → Store → ℕ → Type 0
LeaveWithin fields store place = at_most (limit_at store place) (run_left store.segmented fields) ≡ run_at (open_runs store).runs place

-- the unit that a segment with this body completed, if any
abbrev pub ended_kind : EndedKind → OpenRun → List ℕ → Option (List ℕ)
ended_kind ended_kinds.Nothing run body = None
ended_kind ended_kinds.Body run body = Some body
ended_kind ended_kinds.Whole run body = Some run.room.octets

-- The run after a segment for which this kind was returned, once the unit that the segment completed is delivered. If
-- the segment completed a unit, the run is over.
abbrev pub behind : EndedKind → OpenRun → OpenRun
behind ended_kinds.Nothing run = run
behind ended_kinds.Body run = closed run
behind ended_kinds.Whole run = closed run

-- The place of the unit that a segment completed. `place` is the place of the segment's stream.
abbrev pub ended_by_stream : EndedKind → ℕ → Ended
ended_by_stream ended_kinds.Nothing place = Nothing
ended_by_stream ended_kinds.Body place = Lying 1
ended_by_stream ended_kinds.Whole place = Joined place

-- the unit that a field completed, if any
abbrev pub unit_in : Ended → Store → List ℕ → Option (List ℕ)
unit_in Nothing store field = None
unit_in (Lying from) store field = Some (drop from field)
unit_in (Joined place) store field = option_map (λ (r : OpenRun). r.room.octets) (slice_get store.runs place)

-- the place that is reported for the unit exists
abbrev pub IsThere : Ended → Store → List ℕ → Type 0
IsThere Nothing store field = Unit {0}
IsThere (Lying from) store field = from ≤ length field
IsThere (Joined place) store field = place < length store.runs

-- the runs, once the run at this place has ended
abbrev pub over_at : ℕ → List OpenRun → List OpenRun
over_at place [] = []
over_at zero (run ∷ runs) = closed run ∷ runs
over_at (suc place) (run ∷ runs) = run ∷ over_at place runs

abbrev pub over : ℕ → Store → Store
over place store = record store { runs = over_at place store.runs }

-- the store after delivery of the unit that a field of this stream completed, if it completed one
abbrev pub committed : Ended → ℕ → Store → Store
committed Nothing place store = store
committed (Lying from) place store = over place store
committed (Joined at) place store = over place store

-- the run at this place was written, and no other, and all rooms are as large as before
pub record IsWritten (place : ℕ) (old new : List OpenRun) : Type 0 where
  pub next : OpenRun
  pub is : new ≡ set old place next
  pub sizes : sizes_of new ≡ sizes_of old

-- a segment with this body was applied to the run at this place, and `t` is the place of the unit that it completed
pub record IsFollowed (place : ℕ) (part : Part) (body : List ℕ) (old new : List OpenRun) (t : EndedKind) : Type 0 where
  pub run : OpenRun
  pub next : OpenRun
  pub run_is : run ≡ get_or old place run
  pub new_is : new ≡ set old place next
  pub small : run.room.size ≤ largest_unit
  pub same_size : next.room.size ≡ run.room.size
  pub unit_is : ended_kind t next body ≡ at_most run.room.size (ended_by part (open_in run) body)
  pub next_is : open_in (behind t next) ≡ at_most run.room.size (next_run part (open_in run) body)
  pub contents : (t ≡ ended_kinds.Nothing → ⊥) → open_in next ≡ open_in run

-- the unit, if any, is within the limit
abbrev pub IsAtMost : ℕ → Option (List ℕ) → Type 0
IsAtMost limit unit = IfSome unit (λ octets. length octets ≤ limit)
