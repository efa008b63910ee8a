-- The settings that a channel can have, and the faults of other settings. The limits on the buffer and on the queues are
-- rules of this receiver, and not of a standard. The APID 2047 marks idle packets (CCSDS 133.0-B, 4.1.2.3.4).
use Rattle.std.specs.Prelude.{◌≡◌, ◌≢◌, ◌<◌, ◌≤◌, ◌⊎◌, ℕ, false, List, [], ◌∷◌, All, AllPairs}
use Rattle.tc_link.specs.Window.{IsWidth}
use Rattle.tc_queues.specs.declared.settings.QueueSetting.{QueueSetting}
use Rattle.tc_queues.specs.declared.settings.MapSetting.{MapSetting}
use Rattle.tc_queues.specs.declared.settings.Settings.{Settings}
use Rattle.tc_queues.specs.declared.settings.LentSettings.{LentSettings}
use Rattle.tc_queues.specs.declared.settings.SettingsFault.{SettingsFault}
use Rattle.tc_queues.specs.declared.settings.SettingsFault.TheVariants.{BadVcid, BadWindow, BadBuffer, BadApid, DoubleApid, BadCapacity, BadMap, DoubleMap, BadUnits, PlainMap, NoMemory}

abbrev pub IsVcid : ℕ → Type 0
IsVcid vcid = vcid ≤ 63

abbrev pub IsBufferSize : ℕ → Type 0
IsBufferSize size = (1 ≤ size) × (size ≤ 64)

-- each APID is at most 2,046, so no queue is for idle packets
abbrev pub HaveApids : List QueueSetting → Type 0
HaveApids queues = All (λ q. q.apid ≤ 2046) queues

-- no two queues are for one APID
abbrev pub AreApart : List QueueSetting → Type 0
AreApart queues = AllPairs (λ (p q : QueueSetting). p.apid ≢ q.apid) queues

abbrev pub HaveCapacities : List QueueSetting → Type 0
HaveCapacities queues = All (λ q. (1 ≤ q.capacity) × (q.capacity ≤ 256)) queues

-- each MAP id fits six bits (CCSDS 232.0-B, 4.1.3.2.2)
abbrev pub AreMaps : List MapSetting → Type 0
AreMaps maps = All (λ m. m.map ≤ 63) maps

-- no MAP is chosen twice
abbrev pub AreMapsApart : List MapSetting → Type 0
AreMapsApart maps = AllPairs (λ (m n : MapSetting). m.map ≢ n.map) maps

abbrev pub HaveUnitCapacities : List MapSetting → Type 0
HaveUnitCapacities maps = All (λ m. (1 ≤ m.capacity) × (m.capacity ≤ 256)) maps

-- a channel without segment headers, a plain one, has no chosen MAPs
abbrev pub HasMapsByHeaders : Settings → Type 0
HasMapsByHeaders s = s.segmented ≡ false → s.maps ≡ []

-- the settings whose lists are lent
abbrev pub settings_of : LentSettings → Settings
settings_of lent = record {
  vcid = lent.vcid;
  width = lent.width;
  buffer = lent.buffer;
  first = lent.first;
  segmented = lent.segmented;
  queues = lent.queues.now;
  maps = lent.maps.now;
}

-- a channel can have these settings
pub record IsAllowed (s : Settings) : Type 0 where
  pub vcid : IsVcid s.vcid
  pub width : IsWidth s.width
  pub buffer : IsBufferSize s.buffer
  pub first : s.first < 256
  pub apids : HaveApids s.queues
  pub apart : AreApart s.queues
  pub capacities : HaveCapacities s.queues
  pub maps : AreMaps s.maps
  pub maps_apart : AreMapsApart s.maps
  pub unit_capacities : HaveUnitCapacities s.maps
  pub by_headers : HasMapsByHeaders s

-- the settings are free of this fault (running out of memory is no fault of settings)
abbrev pub IsFreeOf : Settings → SettingsFault → Type 0
IsFreeOf s BadVcid = IsVcid s.vcid
IsFreeOf s BadWindow = IsWidth s.width
IsFreeOf s BadBuffer = IsBufferSize s.buffer
IsFreeOf s BadApid = HaveApids s.queues
IsFreeOf s DoubleApid = AreApart s.queues
IsFreeOf s BadCapacity = HaveCapacities s.queues
IsFreeOf s BadMap = AreMaps s.maps
IsFreeOf s DoubleMap = AreMapsApart s.maps
IsFreeOf s BadUnits = HaveUnitCapacities s.maps
IsFreeOf s PlainMap = HasMapsByHeaders s
IsFreeOf s NoMemory = Unit {0}

-- the faults that settings may have, in the order in which they are looked for
abbrev pub faults_in_order : List SettingsFault
faults_in_order = BadVcid ∷ BadWindow ∷ BadBuffer ∷ BadApid ∷ DoubleApid ∷ BadCapacity ∷ BadMap ∷ DoubleMap ∷ BadUnits ∷ PlainMap ∷ []

-- the settings have this one of the listed faults, and none that is listed before it
abbrev pub IsFirstFault : Settings → List SettingsFault → SettingsFault → Type 0
IsFirstFault s [] fault = ⊥
IsFirstFault s (next ∷ later) fault = ((fault ≡ next) × ¬ IsFreeOf s next) ⊎ (IsFreeOf s next × IsFirstFault s later fault)

-- the first fault of the settings is this one
unfoldable pub IsFault : Settings → SettingsFault → Type 0
IsFault s fault = IsFirstFault s faults_in_order fault

-- the reason why no channel was created: the first fault of the settings, or running out of memory if they have none
abbrev pub IsRefusal : Settings → SettingsFault → Type 0
IsRefusal s fault = IsFault s fault ⊎ ((fault ≡ NoMemory) × IsAllowed s)
