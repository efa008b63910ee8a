use Rattle.tc_channel.proofs.Names.{◌≡◌, ◌≢◌, ℕ, ◌%◌, ◌≤◌, false, true, [], ◌∷◌, refl, arith, QueueSetting, MapSetting}
use Rattle.std.proofs.Common.{lit≤, lit<}
use Rattle.tc_queues.specs.Settings.{IsVcid, IsBufferSize, HaveApids, AreApart, HaveCapacities, AreMaps, AreMapsApart, HaveUnitCapacities}
use Rattle.tc_link.specs.Window.{IsWidth}
use Rattle.tc_channel.specs.Examples.{channel_of, two_apids, two_maps}
use Rattle.tc_channel.proofs.Faults.{both, first-not, two-apart, not-two-apart, is-fault}
use Rattle.tc_queues.specs.declared.settings.SettingsFault.TheVariants as faults
use Rattle.tc_channel.proofs.answered.settings_are_refused_so.Goals as goal

abbrev queue : ℕ → ℕ → QueueSetting
queue apid capacity = record { apid = apid; capacity = capacity }

abbrev chosen : ℕ → ℕ → MapSetting
chosen map_id capacity = record { map = map_id; capacity = capacity }

width : (n : ℕ) → 2 ≤ n → n ≤ 254 → n % 2 ≡ 0 → IsWidth n
width n least most even = record { least = least; most = most; even = even }

apids : (a b n : ℕ) → a ≤ 2046 → b ≤ 2046 → HaveApids (two_apids a b n)
apids a b n = both (λ (q : QueueSetting). q.apid ≤ 2046) (queue a n) (queue b n)

apart : (a b n : ℕ) → a ≢ b → AreApart (two_apids a b n)
apart a b n = two-apart (λ (q : QueueSetting). q.apid) (queue a n) (queue b n)

capacities : (a b n : ℕ) → 1 ≤ n → n ≤ 256 → HaveCapacities (two_apids a b n)
capacities a b n least most = both (λ (q : QueueSetting). (1 ≤ q.capacity) × (q.capacity ≤ 256)) (queue a n) (queue b n) (least, most) (least, most)

maps : (a b n : ℕ) → a ≤ 63 → b ≤ 63 → AreMaps (two_maps a b n)
maps a b n = both (λ (m : MapSetting). m.map ≤ 63) (chosen a n) (chosen b n)

maps_apart : (a b n : ℕ) → a ≢ b → AreMapsApart (two_maps a b n)
maps_apart a b n = two-apart (λ (m : MapSetting). m.map) (chosen a n) (chosen b n)

units : (a b n : ℕ) → 1 ≤ n → n ≤ 256 → HaveUnitCapacities (two_maps a b n)
units a b n least most = both (λ (m : MapSetting). (1 ≤ m.capacity) × (m.capacity ≤ 256)) (chosen a n) (chosen b n) (least, most) (least, most)

apids-not : (a b n : ℕ) → ¬ (a ≤ 2046) → ¬ HaveApids (two_apids a b n)
apids-not a b n = first-not (λ (q : QueueSetting). q.apid ≤ 2046) (queue a n) (queue b n ∷ [])

capacities-not : (a b n : ℕ) → ¬ ((1 ≤ n) × (n ≤ 256)) → ¬ HaveCapacities (two_apids a b n)
capacities-not a b n = first-not (λ (q : QueueSetting). (1 ≤ q.capacity) × (q.capacity ≤ 256)) (queue a n) (queue b n ∷ [])

maps-not : (a b n : ℕ) → ¬ (a ≤ 63) → ¬ AreMaps (two_maps a b n)
maps-not a b n = first-not (λ (m : MapSetting). m.map ≤ 63) (chosen a n) (chosen b n ∷ [])

units-not : (a b n : ℕ) → ¬ ((1 ≤ n) × (n ≤ 256)) → ¬ HaveUnitCapacities (two_maps a b n)
units-not a b n = first-not (λ (m : MapSetting). (1 ≤ m.capacity) × (m.capacity ≤ 256)) (chosen a n) (chosen b n ∷ [])

-- The first three conditions on settings (`Front`) hold for the greatest values and for the least values, and so do the
-- first six. `Later` stands for the conditions after them.

abbrev Front : ℕ → ℕ → ℕ → Type 0 → Type 0
Front v w b Later = IsVcid v × (IsWidth w × (IsBufferSize b × Later))

last-front : {Later : Type 0} → Later → Front 63 254 64 Later
last-front later = (lit≤ tt, (width 254 (lit≤ tt) (lit≤ tt) refl, ((lit≤ tt, lit≤ tt), later)))

least-front : {Later : Type 0} → Later → Front 0 2 1 Later
least-front later = (lit≤ tt, (width 2 (lit≤ tt) (lit≤ tt) refl, ((lit≤ tt, lit≤ tt), later)))

last-queues : {Later : Type 0} → Later → Front 63 254 64 (HaveApids (two_apids 2046 0 256) × (AreApart (two_apids 2046 0 256) × (HaveCapacities (two_apids 2046 0 256) × Later)))
last-queues later = last-front (apids 2046 0 256 (lit≤ tt) (lit≤ tt), (apart 2046 0 256 (λ e. omega arith), (capacities 2046 0 256 (lit≤ tt) (lit≤ tt), later)))

least-queues : {Later : Type 0} → Later → Front 0 2 1 (HaveApids (two_apids 0 2046 1) × (AreApart (two_apids 0 2046 1) × (HaveCapacities (two_apids 0 2046 1) × Later)))
least-queues later = least-front (apids 0 2046 1 (lit≤ tt) (lit≤ tt), (apart 0 2046 1 (λ e. omega arith), (capacities 0 2046 1 (lit≤ tt) (lit≤ tt), later)))

pub returns-clause-vcid : goal.returns-clause-vcid
returns-clause-vcid c = is-fault (channel_of false 64 255 65 (two_apids 2047 2047 257) (two_maps 64 64 257)) 0 faults.BadVcid tt (λ h. omega arith) refl

pub returns-clause-window : goal.returns-clause-window
returns-clause-window c = is-fault (channel_of false 63 255 65 (two_apids 2047 2047 257) (two_maps 64 64 257)) 1 faults.BadWindow (lit≤ tt, tt) (λ h. let most = h.most in omega arith) refl

pub returns-clause-buffer : goal.returns-clause-buffer
returns-clause-buffer c = is-fault (channel_of false 63 254 65 (two_apids 2047 2047 257) (two_maps 64 64 257)) 2 faults.BadBuffer (lit≤ tt, (width 254 (lit≤ tt) (lit≤ tt) refl, tt)) (λ h. let most = h.1 in omega arith) refl

pub returns-clause-apid : goal.returns-clause-apid
returns-clause-apid c = is-fault (channel_of false 63 254 64 (two_apids 2047 2047 257) (two_maps 64 64 257)) 3 faults.BadApid (last-front tt) (apids-not 2047 2047 257 (λ h. omega arith)) refl

pub returns-clause-double_apid : goal.returns-clause-double_apid
returns-clause-double_apid c = is-fault (channel_of false 63 254 64 (two_apids 2046 2046 257) (two_maps 64 64 257)) 4 faults.DoubleApid (last-front (apids 2046 2046 257 (lit≤ tt) (lit≤ tt), tt)) (not-two-apart (λ (q : QueueSetting). q.apid) (queue 2046 257) (queue 2046 257) refl) refl

pub returns-clause-capacity : goal.returns-clause-capacity
returns-clause-capacity c = is-fault (channel_of false 63 254 64 (two_apids 2046 0 257) (two_maps 64 64 257)) 5 faults.BadCapacity (last-front (apids 2046 0 257 (lit≤ tt) (lit≤ tt), (apart 2046 0 257 (λ e. omega arith), tt))) (capacities-not 2046 0 257 (λ h. let most = h.1 in omega arith)) refl

pub returns-clause-map : goal.returns-clause-map
returns-clause-map c = is-fault (channel_of false 63 254 64 (two_apids 2046 0 256) (two_maps 64 64 257)) 6 faults.BadMap (last-queues tt) (maps-not 64 64 257 (λ h. omega arith)) refl

pub returns-clause-double_map : goal.returns-clause-double_map
returns-clause-double_map c = is-fault (channel_of false 63 254 64 (two_apids 2046 0 256) (two_maps 63 63 257)) 7 faults.DoubleMap (last-queues (maps 63 63 257 (lit≤ tt) (lit≤ tt), tt)) (not-two-apart (λ (m : MapSetting). m.map) (chosen 63 257) (chosen 63 257) refl) refl

pub returns-clause-units : goal.returns-clause-units
returns-clause-units c = is-fault (channel_of false 63 254 64 (two_apids 2046 0 256) (two_maps 63 0 257)) 8 faults.BadUnits (last-queues (maps 63 0 257 (lit≤ tt) (lit≤ tt), (maps_apart 63 0 257 (λ e. omega arith), tt))) (units-not 63 0 257 (λ h. let most = h.1 in omega arith)) refl

pub returns-clause-plain_map : goal.returns-clause-plain_map
returns-clause-plain_map c = is-fault (channel_of false 63 254 64 (two_apids 2046 0 256) (two_maps 63 0 256)) 9 faults.PlainMap (last-queues (maps 63 0 256 (lit≤ tt) (lit≤ tt), (maps_apart 63 0 256 (λ e. omega arith), (units 63 0 256 (lit≤ tt) (lit≤ tt), tt)))) (λ none. let there : two_maps 63 0 256 ≡ [] = none refl in cc) refl

pub returns-clause-largest : goal.returns-clause-largest
returns-clause-largest c = record {
  vcid = lit≤ tt;
  width = width 254 (lit≤ tt) (lit≤ tt) refl;
  buffer = (lit≤ tt, lit≤ tt);
  first = lit< tt;
  apids = apids 2046 0 256 (lit≤ tt) (lit≤ tt);
  apart = apart 2046 0 256 (λ e. omega arith);
  capacities = capacities 2046 0 256 (lit≤ tt) (lit≤ tt);
  maps = maps 63 0 256 (lit≤ tt) (lit≤ tt);
  maps_apart = maps_apart 63 0 256 (λ e. omega arith);
  unit_capacities = units 63 0 256 (lit≤ tt) (lit≤ tt);
  by_headers = λ plain. absurd cc;
}

pub returns-clause-least : goal.returns-clause-least
returns-clause-least c = record {
  vcid = lit≤ tt;
  width = width 2 (lit≤ tt) (lit≤ tt) refl;
  buffer = (lit≤ tt, lit≤ tt);
  first = lit< tt;
  apids = apids 0 2046 1 (lit≤ tt) (lit≤ tt);
  apart = apart 0 2046 1 (λ e. omega arith);
  capacities = capacities 0 2046 1 (lit≤ tt) (lit≤ tt);
  maps = maps 0 63 1 (lit≤ tt) (lit≤ tt);
  maps_apart = maps_apart 0 63 1 (λ e. omega arith);
  unit_capacities = units 0 63 1 (lit≤ tt) (lit≤ tt);
  by_headers = λ plain. absurd cc;
}

pub returns-clause-odd_window : goal.returns-clause-odd_window
returns-clause-odd_window c = is-fault (channel_of true 0 3 1 (two_apids 0 2046 1) (two_maps 0 63 1)) 1 faults.BadWindow (lit≤ tt, tt) (λ h. let even : 1 ≡ 0 = h.even in omega arith) refl

pub returns-clause-no_buffer : goal.returns-clause-no_buffer
returns-clause-no_buffer c = is-fault (channel_of true 0 2 0 (two_apids 0 2046 1) (two_maps 0 63 1)) 2 faults.BadBuffer (lit≤ tt, (width 2 (lit≤ tt) (lit≤ tt) refl, tt)) (λ h. let least = h.0 in omega arith) refl

pub returns-clause-no_packet : goal.returns-clause-no_packet
returns-clause-no_packet c = is-fault (channel_of true 0 2 1 (two_apids 0 2046 0) (two_maps 0 63 1)) 5 faults.BadCapacity (least-front (apids 0 2046 0 (lit≤ tt) (lit≤ tt), (apart 0 2046 0 (λ e. omega arith), tt))) (capacities-not 0 2046 0 (λ h. let least = h.0 in omega arith)) refl

pub returns-clause-no_unit : goal.returns-clause-no_unit
returns-clause-no_unit c = is-fault (channel_of true 0 2 1 (two_apids 0 2046 1) (two_maps 0 63 0)) 8 faults.BadUnits (least-queues (maps 0 63 0 (lit≤ tt) (lit≤ tt), (maps_apart 0 63 0 (λ e. omega arith), tt))) (units-not 0 63 0 (λ h. let least = h.0 in omega arith)) refl
