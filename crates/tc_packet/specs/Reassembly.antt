-- The runs and units that the data fields of a stream make, defined by looking back over all fields (CCSDS 232.0-B,
-- 4.4).
use Rattle.std.specs.Prelude.{◌≡◌, ℕ, ◌+◌, ◌≤◌, ◌<◌, slice_index_or, Bool, true, false, ◌==◌, ◌&&◌, ◌⊎◌, List, [], ◌∷◌, ◌++◌, length, map, filter, Option, Some, None, IfSome, nat_le, if◌then◌else◌}
use Rattle.std.specs.Option.{option_and_then, option_or}
use Rattle.std.specs.List.{list_all, flat_map, AllByRecursion}
use Rattle.tc_packet.specs.declared.segment.Part.{Part}
use Rattle.tc_packet.specs.declared.segment.Part.TheVariants.{First, Continuing, Last, Unsegmented}
use Rattle.tc_packet.specs.declared.service.Service.{Service}
use Rattle.tc_packet.specs.declared.service.Service.TheVariants.{Ad, Bd}
use Rattle.tc_packet.specs.Segment.{header_of, body_of}
use Rattle.tc_packet.specs.SpacePacket.{largest_packet}

-- the largest number of octets in a run or a unit, which is that of the largest packet
abbrev pub largest_unit : ℕ
largest_unit = largest_packet

abbrev pub bounded : List ℕ → Option (List ℕ)
bounded octets = if nat_le (length octets) largest_unit then Some octets else None

-- The octets if their number is within the limit, and otherwise none. With the limit `largest_unit`, all runs and units of a
-- stream stay as they are.
abbrev pub at_most : ℕ → Option (List ℕ) → Option (List ℕ)
at_most limit None = None
at_most limit (Some octets) = if nat_le (length octets) limit then Some octets else None

abbrev pub IsWithinLimit : Option (List ℕ) → Type 0
IsWithinLimit run = IfSome run (λ octets. length octets ≤ largest_unit)

-- the open run and the unit, as relations

abbrev pub IsPart : Part → List ℕ → Type 0
IsPart part field = (header_of field).part ≡ part

-- the octets that fields carry after their segment headers, joined
abbrev pub joined_bodies : List (List ℕ) → List ℕ
joined_bodies fields = flat_map body_of fields

-- The fields end with a first segment and any number of continuing segments. The joined bodies of these segments are
-- `octets`, and are within the limit.
pub record IsOpenRun (fields : List (List ℕ)) (octets : List ℕ) : Type 0 where
  pub before : List (List ℕ)
  pub first : List ℕ
  pub after : List (List ℕ)
  pub parts : fields ≡ before ++ first ∷ after
  pub opens : IsPart First first
  pub goes_on : AllByRecursion (IsPart Continuing) after
  pub joins : octets ≡ joined_bodies (first ∷ after)
  pub limit : length octets ≤ largest_unit

-- The field is a last segment after an open run. The unit that it completes is `octets`, and is within the limit.
pub record IsClosedBy (fields : List (List ℕ)) (field octets : List ℕ) : Type 0 where
  pub run : List ℕ
  pub opened : IsOpenRun fields run
  pub closes : IsPart Last field
  pub joins : octets ≡ run ++ body_of field
  pub limit : length octets ≤ largest_unit

-- the field is a whole unit in one segment, and its body is `octets`, which is within the limit
pub record IsUnsegmented (field octets : List ℕ) : Type 0 where
  pub whole : IsPart Unsegmented field
  pub joins : octets ≡ body_of field
  pub limit : length octets ≤ largest_unit

-- these octets are the unit that a field completes after these fields of its stream
abbrev pub IsUnit : List (List ℕ) → List ℕ → List ℕ → Type 0
IsUnit fields field octets = IsUnsegmented field octets ⊎ IsClosedBy fields field octets

-- the open run and the unit, as functions

abbrev pub is_first : Part → Bool
is_first First = true
is_first _ = false

abbrev pub is_continuing : Part → Bool
is_continuing Continuing = true
is_continuing _ = false

-- the last field that is a first segment, if there is one, and the fields after it
abbrev pub from_last_first : List (List ℕ) → Option (List ℕ × List (List ℕ))
from_last_first [] = None
from_last_first (f ∷ fs) = option_or (from_last_first fs) (if is_first (header_of f).part then Some (f, fs) else None)

abbrev pub all_continue : List (List ℕ) → Bool
all_continue fs = list_all (λ g. is_continuing (header_of g).part) fs

-- The joined bodies of a first segment and the fields after it, if all fields after it are continuing segments and the
-- bodies are within the limit.
abbrev pub run_of : List ℕ × List (List ℕ) → Option (List ℕ)
run_of p = if all_continue p.1 then bounded (joined_bodies (p.0 ∷ p.1)) else None

-- the open run of a stream, if it has one
abbrev pub open_run : List (List ℕ) → Option (List ℕ)
open_run fields = option_and_then run_of (from_last_first fields)

-- a run with one more body at its end, if there is a run and the result is within the limit
abbrev pub extended : Option (List ℕ) → List ℕ → Option (List ℕ)
extended run body = option_and_then (λ octets. bounded (octets ++ body)) run

abbrev pub ended_by : Part → Option (List ℕ) → List ℕ → Option (List ℕ)
ended_by Unsegmented run body = bounded body
ended_by Last run body = extended run body
ended_by First run body = None
ended_by Continuing run body = None

-- the unit that a field completes after these fields of its stream, if any
abbrev pub unit_at : List (List ℕ) → List ℕ → Option (List ℕ)
unit_at fields field = ended_by (header_of field).part (open_run fields) (body_of field)

-- the streams of a channel

-- a data field that was passed to reassembly
pub record Passed : Type 0 where
  pub service : Service
  pub field : List ℕ

abbrev pub same_service : Service → Service → Bool
same_service Ad Ad = true
same_service Bd Bd = true
same_service _ _ = false

abbrev pub is_of : Service → ℕ → Passed → Bool
is_of service map_id p = same_service service p.service && (header_of p.field).map == map_id

-- the fields of one service and one MAP, in order
abbrev pub stream : Service → ℕ → List Passed → List (List ℕ)
stream service map_id passed = map (λ p. p.field) (filter (is_of service map_id) passed)

-- The place of a stream's open run in a reassembler. The places of AD come first, then those of BD, each by MAP id.
abbrev pub place_of : Service → ℕ → ℕ
place_of Ad map_id = map_id
place_of Bd map_id = 64 + map_id

abbrev pub run_at : List (Option (List ℕ)) → ℕ → Option (List ℕ)
run_at runs place = slice_index_or runs place None

abbrev pub stream_place : Service → List ℕ → ℕ
stream_place service field = place_of service (header_of field).map

-- the number of streams: two services of 64 MAPs
abbrev pub stream_count : ℕ
stream_count = 128

-- The run and the unit, with or without segment headers. A field without a segment header is a unit by itself and
-- leaves no run.

-- the run that the fields of a stream leave open, if any
abbrev pub run_left : Bool → List (List ℕ) → Option (List ℕ)
run_left true fields = open_run fields
run_left false fields = None

-- the unit that a field completes after these fields of its stream, if any
abbrev pub unit_ended : Bool → List (List ℕ) → List ℕ → Option (List ℕ)
unit_ended true fields field = unit_at fields field
unit_ended false fields field = bounded field

-- the view of a reassembler in contracts: whether data fields have segment headers, and the open run of each stream
pub record OpenRuns : Type 0 where
  pub segmented : Bool
  pub runs : List (Option (List ℕ))

-- each stream has one run or none, no run is beyond the limit, and without segment headers no stream has a run
pub record AreOpenRuns (open_runs : OpenRuns) : Type 0 where
  pub streams : length open_runs.runs ≡ stream_count
  pub limit : (place : ℕ) → IsWithinLimit (run_at open_runs.runs place)
  pub plain : open_runs.segmented ≡ false → (place : ℕ) → run_at open_runs.runs place ≡ None

-- the fields leave the run that is kept at this place
abbrev pub Leave : List (List ℕ) → OpenRuns → ℕ → Type 0
Leave fields open_runs place = run_left open_runs.segmented fields ≡ run_at open_runs.runs place

-- some fields of this MAP leave this run open, or no run if `run` is `None`
pub record IsLeftByFields (map : ℕ) (run : Option (List ℕ)) : Type 0 where
  pub fields : List (List ℕ)
  pub stream : AllByRecursion (λ field. (0 < length field) × ((header_of field).map ≡ map)) fields
  pub leaves : open_run fields ≡ run
