-- An account of all data fields of a stream. A field that is in no unit and in no open run is lost, and no reply
-- reports the loss.
use Rattle.std.specs.Prelude.{◌≡◌, ◌≤◌, ◌⊎◌, ℕ, List, [], ◌∷◌, ◌++◌, length, Option, Some, None, if◌then◌else◌}
use Rattle.std.specs.List.{AllByRecursion, flat_map}
use Rattle.tc_packet.specs.declared.segment.Part.TheVariants as parts
use Rattle.tc_packet.specs.declared.Service.{Service}
use Rattle.tc_packet.specs.Reassembly.{IsPart, Passed, at_most, is_of, joined_bodies, largest_unit, open_run, stream}
use Rattle.tc_queues.specs.declared.settings.Settings.{Settings}
use Rattle.tc_channel.specs.Given.{as_list}
use Rattle.tc_channel.specs.Through.{all_made, unit_made}

-- Data fields that follow each other in their stream, and their outcome. They made a unit, or they are an open run, or
-- they are lost. Fields are lost because they are over their limit, because another unit began before theirs ended, or
-- because no run was open.
pub data Share : Type 0 where
  Ended : List (List ℕ) → Share
  Open : List (List ℕ) → Share
  OverLimit : List (List ℕ) → Share
  Broken : List (List ℕ) → Share
  WithoutRun : List ℕ → Share

abbrev pub fields_of : Share → List (List ℕ)
fields_of (Ended fields) = fields
fields_of (Open fields) = fields
fields_of (OverLimit fields) = fields
fields_of (Broken fields) = fields
fields_of (WithoutRun field) = field ∷ []

-- the fields of all shares, in their order
abbrev pub fields_in : List Share → List (List ℕ)
fields_in shares = flat_map fields_of shares

abbrev pub unit_of_share : Share → List (List ℕ)
unit_of_share (Ended fields) = joined_bodies fields ∷ []
unit_of_share (Open fields) = []
unit_of_share (OverLimit fields) = []
unit_of_share (Broken fields) = []
unit_of_share (WithoutRun field) = []

-- the units that were made, in their order
abbrev pub units_in : List Share → List (List ℕ)
units_in shares = flat_map unit_of_share shares

-- the octets of the open run, or `None` if no share is open
abbrev pub open_in : List Share → Option (List ℕ)
open_in [] = None
open_in (Open fields ∷ shares) = Some (joined_bodies fields)
open_in (Ended fields ∷ shares) = open_in shares
open_in (OverLimit fields ∷ shares) = open_in shares
open_in (Broken fields ∷ shares) = open_in shares
open_in (WithoutRun field ∷ shares) = open_in shares

-- the fields are a first segment and any number of continuing segments behind it
abbrev pub IsRun : List (List ℕ) → Type 0
IsRun [] = ⊥
IsRun (first ∷ after) = IsPart parts.First first × AllByRecursion (IsPart parts.Continuing) after

-- the fields are all segments of a unit: an unsegmented one, or a run and a last segment
abbrev pub AreAllSegments : List (List ℕ) → Type 0
AreAllSegments fields =
    ((whole : List ℕ) × (fields ≡ whole ∷ []) × IsPart parts.Unsegmented whole)
    ⊎ ((segments : List (List ℕ)) × (last : List ℕ) × (fields ≡ segments ++ last ∷ []) × IsRun segments × IsPart parts.Last last)

-- together the fields carry no more octets than the limit of their MAP and no more than the largest unit
abbrev pub AreWithin : ℕ → List (List ℕ) → Type 0
AreWithin limit fields = (length (joined_bodies fields) ≤ limit) × (length (joined_bodies fields) ≤ largest_unit)

-- the first of these fields begins a unit
abbrev pub BeginUnit : List (List ℕ) → Type 0
BeginUnit [] = ⊥
BeginUnit (next ∷ after) = IsPart parts.First next ⊎ IsPart parts.Unsegmented next

-- Each share is of the kind that its name says. A run at the end of the stream is open, unless it is over its limit
-- already.
abbrev pub AreShares : ℕ → List Share → Type 0
AreShares limit [] = Unit {0}
AreShares limit (Ended fields ∷ later) = AreAllSegments fields × AreWithin limit fields × AreShares limit later
AreShares limit (Open fields ∷ later) = IsRun fields × AreWithin limit fields × (later ≡ [])
AreShares limit (OverLimit fields ∷ later) = (AreAllSegments fields ⊎ (IsRun fields × (later ≡ []))) × ¬ AreWithin limit fields × AreShares limit later
AreShares limit (Broken fields ∷ later) = IsRun fields × BeginUnit (fields_in later) × AreShares limit later
AreShares limit (WithoutRun field ∷ later) = (IsPart parts.Continuing field ⊎ IsPart parts.Last field) × AreShares limit later

-- the unit that one more data field makes, if the field is of this stream
abbrev pub unit_on : (ℕ → ℕ) → Settings → Service → ℕ → List Passed → Passed → List (List ℕ)
unit_on limits s service map_id before p = if is_of service map_id p then as_list (unit_made limits s before p) else []

-- The shares consist of all fields of a stream, each once and in order. The units of the shares are exactly the units
-- that these fields made, and the open run of the shares is the run that they left.
pub record AccountFor (limits : ℕ → ℕ) (s : Settings) (service : Service) (map_id : ℕ) (passed : List Passed) (shares : List Share) : Type 0 where
  pub are : AreShares (limits map_id) shares
  pub fields : fields_in shares ≡ stream service map_id passed
  pub units : units_in shares ≡ all_made (unit_on limits s service map_id) [] passed
  pub left : open_in shares ≡ at_most (limits map_id) (open_run (stream service map_id passed))
