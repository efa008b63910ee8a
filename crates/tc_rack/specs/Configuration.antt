-- The settings of the channels that a script has set up, in the order of their lines.
use Rattle.std.specs.Prelude.{◌≡◌, ◌≢◌, ◌==◌, ◌≤◌, ℕ, Bool, false, List, [], ◌∷◌, ◌++◌, All, AllPairs, Any, get_or, length, map, slice_get, slice_set, Some}
use Rattle.std.specs.List.{AllZip, list_any}
use Rattle.tc_queues.specs.declared.settings.QueueSetting.{QueueSetting}
use Rattle.tc_queues.specs.declared.settings.Settings.{Settings}
use Rattle.tc_queues.specs.Settings.{IsAllowed}
use Rattle.tc_rack.specs.declared.instruction.Addition.{Addition}
use Rattle.tc_rack.specs.declared.instruction.Addition.TheVariants.{Queue, Map}

-- a station can be created from these settings, if there are any
pub record IsConfiguration (list : List Settings) : Type 0 where
  pub distinct : AllPairs (λ (p q : Settings). p.vcid ≢ q.vcid) list
  pub allowed : All IsAllowed list

-- the ids of the channels, in their order
abbrev pub vcids_of : List Settings → List ℕ
vcids_of list = map (λ (s : Settings). s.vcid) list

-- there is a channel with this id
abbrev pub HasSettings : List Settings → ℕ → Type 0
HasSettings list vcid = Any (λ (s : Settings). s.vcid ≡ vcid) list

-- these settings are at this place, and have this id
abbrev pub IsAt : List Settings → ℕ → ℕ → Settings → Type 0
IsAt list vcid place s = (slice_get list place ≡ Some s) × (s.vcid ≡ vcid)

-- the settings after a queue line or a map line
abbrev pub with_addition : Settings → Addition → Settings
with_addition s (Queue queue) = record s { queues = s.queues ++ queue ∷ [] }
with_addition s (Map chosen) = record s { maps = s.maps ++ chosen ∷ [] }

-- one more channel is set up, with allowed settings and an id that no other channel has
abbrev pub AddsChannel : List Settings → Settings → List Settings → Type 0
AddsChannel list s new = ¬ HasSettings list s.vcid × IsAllowed s × (new ≡ list ++ s ∷ [])

-- the channel with this id gets one more queue or chosen MAP, its settings are still allowed, and the other channels stay the same
abbrev pub AddsToChannel : List Settings → ℕ → Addition → List Settings → Type 0
AddsToChannel list vcid addition new =
    (place : ℕ) × (s : Settings) × IsAt list vcid place s × IsAllowed (with_addition s addition) × (new ≡ slice_set list place (with_addition s addition))

-- the list has a flag for each APID that a queue can have, which is set if and only if a queue has the APID
pub record AreApidsOf (queues : List QueueSetting) (apids : List Bool) : Type 0 where
  pub size : length apids ≡ 2047
  pub reported : (apid : ℕ) → apid ≤ 2046 → get_or apids apid false ≡ list_any (λ (q : QueueSetting). q.apid == apid) queues

-- the lists of flags belong to the channels in their order, and each shows the APIDs of its channel's queues
abbrev pub AreApidsOfEach : List Settings → List (List Bool) → Type 0
AreApidsOfEach = AllZip (λ (s : Settings) (apids : List Bool). AreApidsOf s.queues apids)
