-- The limits on the length of units by MAP, the limits that a channel can have, and the faults of other limits. These
-- are rules of this receiver, and not of a standard.
use Rattle.std.specs.Prelude.{◌≡◌, ◌≢◌, ◌≤◌, ◌⊎◌, ◌==◌, ℕ, max, min, Bool, false, List, [], ◌∷◌, All, AllPairs, Any, if◌then◌else◌}
use Rattle.std.specs.List.{AllByRecursion}
use Rattle.tc_packet.specs.Reassembly.{largest_unit}
use Rattle.tc_queues.specs.Memory.{largest_item}
use Rattle.tc_queues.specs.declared.settings.MapSetting.{MapSetting}
use Rattle.tc_queues.specs.declared.settings.Settings.{Settings}
use Rattle.tc_queues.specs.declared.settings.SettingsFault.{SettingsFault}
use Rattle.tc_queues.specs.declared.settings.SettingsFault.TheVariants as settings_faults
use Rattle.tc_queues.specs.Settings.{IsAllowed, IsFault as IsFaultOfSettings}
use Rattle.tc_fixed.specs.declared.limits.MapLimit.{MapLimit}
use Rattle.tc_fixed.specs.declared.limits.Limits.{Limits}
use Rattle.tc_fixed.specs.declared.limits.LentLimits.{LentLimits}
use Rattle.tc_fixed.specs.declared.limits.LimitsFault.{LimitsFault}
use Rattle.tc_fixed.specs.declared.limits.LimitsFault.TheVariants as faults

-- the limit of a MAP: the listed limit if the MAP is listed, and otherwise `others`
abbrev pub limit_in : List MapLimit → ℕ → ℕ → ℕ
limit_in [] others map_id = others
limit_in (m ∷ ms) others map_id = if m.map == map_id then m.octets else limit_in ms others map_id

abbrev pub limit_of : Limits → ℕ → ℕ
limit_of limits map_id = limit_in limits.maps limits.others map_id

-- the largest limit of all
abbrev pub largest_in : List MapLimit → ℕ → ℕ
largest_in [] others = others
largest_in (m ∷ ms) others = largest_in ms (max others m.octets)

abbrev pub largest_limit : Limits → ℕ
largest_limit limits = largest_in limits.maps limits.others

-- The largest number of octets that a packet or a unit can have within these limits. On a plain channel it is at most
-- the number of octets in the largest data field.
abbrev pub item_size : Limits → Bool → ℕ
item_size limits segmented = min (largest_limit limits) (largest_item segmented)

-- the limits whose list is lent
abbrev pub limits_of : LentLimits → Limits
limits_of lent = record { others = lent.others; maps = lent.maps.now }

-- limits that list no MAP and allow each unit up to the largest one
abbrev pub none : Limits
none = record { others = largest_unit; maps = [] }

-- The limit of the MAPs that aren't listed is at most the largest unit. On a plain channel it isn't 0, since each data
-- field is a unit by itself.
abbrev pub IsOthers : ℕ → Bool → Type 0
IsOthers others segmented = (others ≤ largest_unit) × (segmented ≡ false → 1 ≤ others)

abbrev pub AreLimitedMaps : List MapLimit → Type 0
AreLimitedMaps maps = All (λ m. m.map ≤ 63) maps

-- no MAP is listed twice
abbrev pub AreLimitedMapsApart : List MapLimit → Type 0
AreLimitedMapsApart maps = AllPairs (λ (m n : MapLimit). m.map ≢ n.map) maps

abbrev pub HaveOctets : List MapLimit → Type 0
HaveOctets maps = All (λ m. (1 ≤ m.octets) × (m.octets ≤ largest_unit)) maps

-- no MAP is listed on a plain channel, which has no segment headers
abbrev pub LimitsMapsByHeaders : List MapLimit → Bool → Type 0
LimitsMapsByHeaders maps segmented = segmented ≡ false → maps ≡ []

abbrev pub IsListed : List MapLimit → ℕ → Type 0
IsListed maps map_id = Any (λ (m : MapLimit). m.map ≡ map_id) maps

-- each chosen MAP is listed if the limit of the others is 0
abbrev pub AreListed : Limits → List MapSetting → Type 0
AreListed limits chosen = limits.others ≡ 0 → AllByRecursion (λ (m : MapSetting). IsListed limits.maps m.map) chosen

-- a channel of these settings can have these limits
pub record AreLimits (s : Settings) (limits : Limits) : Type 0 where
  pub others : IsOthers limits.others s.segmented
  pub maps : AreLimitedMaps limits.maps
  pub maps_apart : AreLimitedMapsApart limits.maps
  pub octets : HaveOctets limits.maps
  pub by_headers : LimitsMapsByHeaders limits.maps s.segmented
  pub listed : AreListed limits s.maps

-- The limits are free of this fault. A fault of the settings isn't a fault of the limits.
abbrev pub IsFreeOfLimitsFault : Settings → Limits → LimitsFault → Type 0
IsFreeOfLimitsFault s limits (faults.Settings fault) = Unit {0}
IsFreeOfLimitsFault s limits faults.BadOthers = IsOthers limits.others s.segmented
IsFreeOfLimitsFault s limits faults.BadMap = AreLimitedMaps limits.maps
IsFreeOfLimitsFault s limits faults.DoubleMap = AreLimitedMapsApart limits.maps
IsFreeOfLimitsFault s limits faults.BadLimit = HaveOctets limits.maps
IsFreeOfLimitsFault s limits faults.PlainMap = LimitsMapsByHeaders limits.maps s.segmented
IsFreeOfLimitsFault s limits faults.UnlistedMap = AreListed limits s.maps

-- the faults that limits may have, in the order in which they are checked
abbrev pub limits_faults_in_order : List LimitsFault
limits_faults_in_order = faults.BadOthers ∷ faults.BadMap ∷ faults.DoubleMap ∷ faults.BadLimit ∷ faults.PlainMap ∷ faults.UnlistedMap ∷ []

-- the limits have this one of the listed faults, and none before it
abbrev pub IsFirstLimitsFault : Settings → Limits → List LimitsFault → LimitsFault → Type 0
IsFirstLimitsFault s limits [] fault = ⊥
IsFirstLimitsFault s limits (next ∷ later) fault = ((fault ≡ next) × ¬ IsFreeOfLimitsFault s limits next) ⊎ (IsFreeOfLimitsFault s limits next × IsFirstLimitsFault s limits later fault)

-- the first fault of the limits is this one
unfoldable pub IsLimitsFault : Settings → Limits → LimitsFault → Type 0
IsLimitsFault s limits fault = IsFirstLimitsFault s limits limits_faults_in_order fault

-- a fault of the settings
abbrev pub of_settings : SettingsFault → LimitsFault
of_settings fault = faults.Settings fault

-- The first fault is this one. The faults of the settings come before those of the limits.
abbrev pub IsFaultWithLimits : Settings → Limits → LimitsFault → Type 0
IsFaultWithLimits s limits fault = ((its : SettingsFault) × (fault ≡ of_settings its) × IsFaultOfSettings s its) ⊎ (IsAllowed s × IsLimitsFault s limits fault)

-- the reason why no channel was created: the first fault of the settings and limits, or running out of memory if they
-- have none
abbrev pub IsRefusalWithLimits : Settings → Limits → LimitsFault → Type 0
IsRefusalWithLimits s limits fault = IsFaultWithLimits s limits fault ⊎ ((fault ≡ of_settings settings_faults.NoMemory) × IsAllowed s × AreLimits s limits)
