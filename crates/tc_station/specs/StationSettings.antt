-- The settings from which a station can be created, and the faults of other settings. The spacecraft id has 10 bits
-- (CCSDS 232.0-B, 4.1.2.5).
use Rattle.std.specs.Prelude.{◌≡◌, ◌≢◌, ℕ, ◌≤◌, List, [], All, AllPairs, Any, map, take, slice_get, Some}
use Rattle.tc_queues.specs.declared.settings.Settings.{Settings}
use Rattle.tc_queues.specs.declared.settings.SettingsFault.{SettingsFault}
use Rattle.tc_queues.specs.Settings.{IsAllowed, IsFault}
use Rattle.tc_station.specs.declared.faults.StationFault.{StationFault}
use Rattle.tc_station.specs.declared.faults.StationFault.TheVariants as fault

abbrev pub vcids_of : List Settings → List ℕ
vcids_of list = map (λ (s : Settings). s.vcid) list

abbrev pub IsScid : ℕ → Type 0
IsScid scid = scid ≤ 1023

abbrev pub HaveDistinctVcids : List Settings → Type 0
HaveDistinctVcids list = AllPairs (λ (p q : Settings). p.vcid ≢ q.vcid) list

-- the first entry whose id also occurs earlier in the list has this id
abbrev pub IsFirstDouble : List Settings → ℕ → Type 0
IsFirstDouble list vcid =
    (i : ℕ) × (s : Settings) × (slice_get list i ≡ Some s) × (s.vcid ≡ vcid) × HaveDistinctVcids (take i list) × Any (λ (t : Settings). t.vcid ≡ vcid) (take i list)

-- the first entry from which no channel can be created has this id and this fault
abbrev pub IsFirstRefused : List Settings → ℕ → SettingsFault → Type 0
IsFirstRefused list vcid f =
    (i : ℕ) × (s : Settings) × (slice_get list i ≡ Some s) × (s.vcid ≡ vcid) × IsFault s f × All IsAllowed (take i list)

-- a station can have these settings
pub record AreStationSettings (scid : ℕ) (list : List Settings) : Type 0 where
  pub spacecraft : IsScid scid
  pub channel : list ≢ []
  pub distinct : HaveDistinctVcids list
  pub allowed : All IsAllowed list

-- this is the reason why no station was created: the first of the faults below that applies
abbrev pub IsStationFault : ℕ → List Settings → StationFault → Type 0
IsStationFault scid list fault.BadScid = ¬ IsScid scid
IsStationFault scid list fault.NoChannel = IsScid scid × (list ≡ [])
IsStationFault scid list (fault.DoubleVcid vcid) = IsScid scid × (list ≢ []) × IsFirstDouble list vcid
IsStationFault scid list (fault.Settings vcid f) = IsScid scid × (list ≢ []) × HaveDistinctVcids list × IsFirstRefused list vcid f
IsStationFault scid list fault.NoMemory = AreStationSettings scid list
