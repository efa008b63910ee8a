use Rattle.std.proofs.Common.{◌≡◌, ◌≢◌, ℕ, zero, suc, ◌≤◌, Bool, false, true, List, [], ◌∷◌, ◌++◌, take, drop, refl, ap, ◌∙◌, inl, inr, lit≤, lit<, arith}
use Rattle.std.specs.List.{AllByRecursion}
use Rattle.std.proofs.lemmas.List.Elements.{All-nil}
use Rattle.tc_queues.specs.declared.settings.QueueSetting.{QueueSetting}
use Rattle.tc_queues.specs.declared.settings.MapSetting.{MapSetting}
use Rattle.tc_queues.specs.declared.settings.Settings.{Settings}
use Rattle.tc_queues.specs.declared.settings.SettingsFault.TheVariants as settings_faults
use Rattle.tc_queues.specs.Settings.{IsAllowed, IsFault as IsFaultOfSettings, faults_in_order as settings_faults_in_order}
use Rattle.tc_channel.specs.Examples.{channel_of, two_maps}
use Rattle.tc_channel.proofs.Faults.{both, first-not, two-apart, not-two-apart, first-of as first-of-settings}
use Rattle.tc_fixed.specs.declared.limits.Limits.{Limits}
use Rattle.tc_fixed.specs.declared.limits.LimitsFault.{LimitsFault}
use Rattle.tc_fixed.specs.declared.limits.LimitsFault.TheVariants as faults
use Rattle.tc_fixed.specs.declared.limits.MapLimit.{MapLimit}
use Rattle.tc_fixed.specs.Examples.{limits_on}
use Rattle.tc_fixed.specs.Limits.{AreLimitedMaps, AreLimitedMapsApart, HaveOctets, IsFreeOfLimitsFault, IsFirstLimitsFault, IsLimitsFault, IsListed, limits_faults_in_order}
use Rattle.tc_fixed.proofs.laws.limits_are_refused_so.Goals as goal

-- the fault is the first one if the limits have it and are free of the faults before it
first-of : (s : Settings) (limits : Limits) (before later : List LimitsFault) (fault : LimitsFault) → AllByRecursion (IsFreeOfLimitsFault s limits) before → ¬ IsFreeOfLimitsFault s limits fault → IsFirstLimitsFault s limits (before ++ fault ∷ later) fault
first-of s limits [] later fault free has = inl (refl, has)
first-of s limits (b ∷ before) later fault free has = inr (free.0, first-of s limits before later fault free.1 has)

abbrev limit : ℕ → ℕ → MapLimit
limit map_id octets = record { map = map_id; octets = octets }

abbrev chosen : ℕ → MapSetting
chosen map_id = record { map = map_id; capacity = 1 }

-- ---- allowed settings without queues, first without MAPs and then with two MAPs
no-maps : (segmented : Bool) → IsAllowed (channel_of segmented 63 2 1 [] [])
no-maps segmented = record {
  vcid = lit≤ tt;
  width = record { least = lit≤ tt; most = lit≤ tt; even = refl };
  buffer = (lit≤ tt, lit≤ tt);
  first = lit< tt;
  apids = All-nil (λ (q : QueueSetting). q.apid ≤ 2046);
  apart = λ i j d before inside. absurd (omega arith);
  capacities = All-nil (λ (q : QueueSetting). (1 ≤ q.capacity) × (q.capacity ≤ 256));
  maps = All-nil (λ (m : MapSetting). m.map ≤ 63);
  maps_apart = λ i j d before inside. absurd (omega arith);
  unit_capacities = All-nil (λ (m : MapSetting). (1 ≤ m.capacity) × (m.capacity ≤ 256));
  by_headers = λ plain. refl;
}

maps-chosen : (one other : ℕ) → one ≤ 63 → other ≤ 63 → one ≢ other → IsAllowed (channel_of true 63 2 1 [] (two_maps one other 1))
maps-chosen one other p q ne = record {
  vcid = lit≤ tt;
  width = record { least = lit≤ tt; most = lit≤ tt; even = refl };
  buffer = (lit≤ tt, lit≤ tt);
  first = lit< tt;
  apids = All-nil (λ (q : QueueSetting). q.apid ≤ 2046);
  apart = λ i j d before inside. absurd (omega arith);
  capacities = All-nil (λ (q : QueueSetting). (1 ≤ q.capacity) × (q.capacity ≤ 256));
  maps = both (λ (m : MapSetting). m.map ≤ 63) (chosen one) (chosen other) p q;
  maps_apart = two-apart (λ (m : MapSetting). m.map) (chosen one) (chosen other) ne;
  unit_capacities = both (λ (m : MapSetting). (1 ≤ m.capacity) × (m.capacity ≤ 256)) (chosen one) (chosen other) (lit≤ tt, lit≤ tt) (lit≤ tt, lit≤ tt);
  by_headers = λ plain. absurd cc;
}

are-maps : (one other n : ℕ) → one ≤ 63 → other ≤ 63 → AreLimitedMaps (limit one n ∷ limit other n ∷ [])
are-maps one other n = both (λ (m : MapLimit). m.map ≤ 63) (limit one n) (limit other n)

apart : (one other n : ℕ) → one ≢ other → AreLimitedMapsApart (limit one n ∷ limit other n ∷ [])
apart one other n = two-apart (λ (m : MapLimit). m.map) (limit one n) (limit other n)

octets : (one other n : ℕ) → 1 ≤ n → n ≤ 65542 → HaveOctets (limit one n ∷ limit other n ∷ [])
octets one other n least most = both (λ (m : MapLimit). (1 ≤ m.octets) × (m.octets ≤ 65542)) (limit one n) (limit other n) (least, most) (least, most)

octets-not : (one other n : ℕ) → ¬ ((1 ≤ n) × (n ≤ 65542)) → ¬ HaveOctets (limit one n ∷ limit other n ∷ [])
octets-not one other n = first-not (λ (m : MapLimit). (1 ≤ m.octets) × (m.octets ≤ 65542)) (limit one n) (limit other n ∷ [])

not-listed : (one other : MapLimit) (map_id : ℕ) → IsListed (one ∷ other ∷ []) map_id → one.map ≢ map_id → other.map ≢ map_id → ⊥
not-listed one other map_id (zero, m, inside, is, its) a b = a (ap (λ (x : MapLimit). x.map) is ∙ its)
not-listed one other map_id (suc zero, m, inside, is, its) a b = b (ap (λ (x : MapLimit). x.map) is ∙ its)
not-listed one other map_id (suc (suc k), m, inside, is, its) a b = absurd (omega arith)

pub returns-clause-settings : goal.returns-clause-settings
unfolding IsFaultOfSettings
returns-clause-settings c = inl (settings_faults.BadVcid, refl, first-of-settings (channel_of false 64 2 1 [] []) [] (drop 1 settings_faults_in_order) settings_faults.BadVcid tt (λ h. omega arith))

pub returns-clause-others : goal.returns-clause-others
unfolding IsLimitsFault
returns-clause-others c = inr (no-maps false, first-of (channel_of false 63 2 1 [] []) (limits_on 0 64 64 0) [] (drop 1 limits_faults_in_order) faults.BadOthers tt (λ h. let least : 1 ≤ 0 = h.1 refl in omega arith))

pub returns-clause-map : goal.returns-clause-map
unfolding IsLimitsFault
returns-clause-map c = inr (
  no-maps false,
  first-of (channel_of false 63 2 1 [] []) (limits_on 1 64 64 0) (take 1 limits_faults_in_order) (drop 2 limits_faults_in_order) faults.BadMap
      ((lit≤ tt, λ plain. lit≤ tt), tt) (first-not (λ (m : MapLimit). m.map ≤ 63) (limit 64 0) (limit 64 0 ∷ []) (λ h. omega arith)),
)

pub returns-clause-double_map : goal.returns-clause-double_map
unfolding IsLimitsFault
returns-clause-double_map c = inr (
  no-maps false,
  first-of (channel_of false 63 2 1 [] []) (limits_on 1 63 63 0) (take 2 limits_faults_in_order) (drop 3 limits_faults_in_order) faults.DoubleMap
      ((lit≤ tt, λ plain. lit≤ tt), (are-maps 63 63 0 (lit≤ tt) (lit≤ tt), tt)) (not-two-apart (λ (m : MapLimit). m.map) (limit 63 0) (limit 63 0) refl),
)

pub returns-clause-limit : goal.returns-clause-limit
unfolding IsLimitsFault
returns-clause-limit c = inr (
  no-maps false,
  first-of (channel_of false 63 2 1 [] []) (limits_on 1 63 0 0) (take 3 limits_faults_in_order) (drop 4 limits_faults_in_order) faults.BadLimit
      ((lit≤ tt, λ plain. lit≤ tt), (are-maps 63 0 0 (lit≤ tt) (lit≤ tt), (apart 63 0 0 (λ e. omega arith), tt))) (octets-not 63 0 0 (λ h. let least = h.0 in omega arith)),
)

pub returns-clause-plain_map : goal.returns-clause-plain_map
unfolding IsLimitsFault
returns-clause-plain_map c = inr (
  no-maps false,
  first-of (channel_of false 63 2 1 [] []) (limits_on 1 63 0 65542) (take 4 limits_faults_in_order) (drop 5 limits_faults_in_order) faults.PlainMap
      ((lit≤ tt, λ plain. lit≤ tt), (are-maps 63 0 65542 (lit≤ tt) (lit≤ tt), (apart 63 0 65542 (λ e. omega arith), (octets 63 0 65542 (lit≤ tt) (lit≤ tt), tt))))
      (λ none. let there : limit 63 65542 ∷ limit 0 65542 ∷ [] ≡ [] = none refl in cc),
)

pub returns-clause-unlisted : goal.returns-clause-unlisted
unfolding IsLimitsFault
returns-clause-unlisted c = inr (
  maps-chosen 62 3 (lit≤ tt) (lit≤ tt) (λ e. omega arith),
  first-of (channel_of true 63 2 1 [] (two_maps 62 3 1)) (limits_on 0 63 3 1) (take 5 limits_faults_in_order) (drop 6 limits_faults_in_order) faults.UnlistedMap
      ((lit≤ tt, λ plain. absurd cc), (are-maps 63 3 1 (lit≤ tt) (lit≤ tt), (apart 63 3 1 (λ e. omega arith), (octets 63 3 1 (lit≤ tt) (lit≤ tt), ((λ plain. absurd cc), tt)))))
      (λ listed. let its = listed refl in not-listed (limit 63 1) (limit 3 1) 62 its.0 (λ e. omega arith) (λ e. omega arith)),
)

pub returns-clause-listed : goal.returns-clause-listed
returns-clause-listed c = record {
  others = (lit≤ tt, λ plain. absurd cc);
  maps = are-maps 63 3 65542 (lit≤ tt) (lit≤ tt);
  maps_apart = apart 63 3 65542 (λ e. omega arith);
  octets = octets 63 3 65542 (lit≤ tt) (lit≤ tt);
  by_headers = λ plain. absurd cc;
  listed = λ none. ((1, limit 3 65542, lit< tt, refl, refl), ((0, limit 63 65542, lit< tt, refl, refl), tt));
}

pub returns-clause-large_others : goal.returns-clause-large_others
unfolding IsLimitsFault
returns-clause-large_others c = inr (no-maps true, first-of (channel_of true 63 2 1 [] []) (limits_on 65543 63 3 1) [] (drop 1 limits_faults_in_order) faults.BadOthers tt (λ h. let most = h.0 in omega arith))

pub returns-clause-large_limit : goal.returns-clause-large_limit
unfolding IsLimitsFault
returns-clause-large_limit c = inr (
  no-maps true,
  first-of (channel_of true 63 2 1 [] []) (limits_on 65542 63 3 65543) (take 3 limits_faults_in_order) (drop 4 limits_faults_in_order) faults.BadLimit
      ((lit≤ tt, λ plain. absurd cc), (are-maps 63 3 65543 (lit≤ tt) (lit≤ tt), (apart 63 3 65543 (λ e. omega arith), tt))) (octets-not 63 3 65543 (λ h. let most = h.1 in omega arith)),
)
