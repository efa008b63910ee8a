-- The limits of MAPs, and the sizes of rooms that follow from them.
use Rattle.std.proofs.Common.{◌≡◌, ◌≢◌, ℕ, zero, suc, ◌+◌, ◌-◌, ◌<◌, ◌≤◌, Bool, true, false, cond, eqb, List, [], ◌∷◌, length, get_or, refl, sym, ap, subst, ◌∙◌, inl, inr, arith}
use Rattle.std.specs.Prelude.{max, min, nat_lt}
use Rattle.std.specs.List.{AllByRecursion, Contains}
use Rattle.std.proofs.Math.ListN.{set}
use Rattle.std.proofs.lemmas.Bool.{cases_eq, eq-eqb, ne_eqb}
use Rattle.std.proofs.lemmas.List.{get_or-set_other, get_or-set_same}
use Rattle.std.proofs.lemmas.Bool.Decides.{nat_tests}
use Rattle.tc_packet.specs.declared.Service.{Service}
use Rattle.tc_packet.specs.declared.Service.TheVariants.{Ad, Bd}
use Rattle.tc_packet.specs.Reassembly.{place_of}
use Rattle.tc_queues.specs.declared.settings.Settings.{Settings}
use Rattle.tc_queues.specs.Memory.{largest_item}
use Rattle.tc_packet.specs.Store.{Store, limit_at}
use Rattle.tc_channel.specs.ChannelCore.{AreSmall, HaveLimits}
use Rattle.tc_fixed.specs.Limits.{AreLimits, AreLimitedMapsApart, HaveOctets, item_size, largest_in, largest_limit, limit_in, limit_of}
use Rattle.tc_fixed.specs.declared.limits.Limits.{Limits}
use Rattle.tc_fixed.specs.declared.limits.MapLimit.{MapLimit}

-- no limit is over the largest

largest-more : (ms : List MapLimit) (few more : ℕ) → few ≤ more → largest_in ms few ≤ largest_in ms more
largest-more [] few more le = le
largest-more (m ∷ ms) few more le = largest-more ms (max few m.octets) (max more m.octets) (omega arith)

largest-least : (ms : List MapLimit) (others : ℕ) → others ≤ largest_in ms others
largest-least [] others = omega arith
largest-least (m ∷ ms) others = let r = largest-least ms (max others m.octets) in omega arith

limit-below : (ms : List MapLimit) (others map_id : ℕ) → limit_in ms others map_id ≤ largest_in ms others
limit-below [] others map_id = omega arith
limit-below (m ∷ ms) others map_id = by (eqb m.map map_id) (limit-below ms others map_id) where
  by : (t : Bool) → limit_in ms others map_id ≤ largest_in ms others → cond t m.octets (limit_in ms others map_id) ≤ largest_in ms (max others m.octets)
  by true h = let r = largest-least ms (max others m.octets) in omega arith
  by false h = let r = largest-more ms others (max others m.octets) (omega arith) in omega arith

pub below-largest : (limits : Limits) (map_id : ℕ) → limit_of limits map_id ≤ largest_limit limits
below-largest limits map_id = limit-below limits.maps limits.others map_id

-- no limit is over the largest unit if neither the listed limits nor `others` are
limit-small : (ms : List MapLimit) (others map_id : ℕ) → HaveOctets ms → others ≤ 65542 → limit_in ms others map_id ≤ 65542
limit-small [] others map_id all small = small
limit-small (m ∷ ms) others map_id all small = by (eqb m.map map_id) (limit-small ms others map_id (λ i d lt. all (suc i) d (omega arith)) small) where
  by : (t : Bool) → limit_in ms others map_id ≤ 65542 → cond t m.octets (limit_in ms others map_id) ≤ 65542
  by true h = (all 0 m (omega arith)).1
  by false h = h

pub each-small : (limits : Limits) (map_id : ℕ) → HaveOctets limits.maps → limits.others ≤ 65542 → limit_of limits map_id ≤ 65542
each-small limits map_id all small = limit-small limits.maps limits.others map_id all small

-- each place below 128 is the place of a stream, which has a service and a MAP
pub place-split : (place : ℕ) → place < 128 → (service : Service) × (map_id : ℕ) × (map_id < 64) × (place ≡ place_of service map_id)
place-split place inside = by (nat_lt place 64) refl where
  by : (t : Bool) → nat_lt place 64 ≡ t → (service : Service) × (map_id : ℕ) × (map_id < 64) × (place ≡ place_of service map_id)
  by true e = (Ad, place, grind (arith, nat_tests), refl)
  by false e = let high : 64 ≤ place = grind (arith, nat_tests) in (Bd, place - 64, omega arith, omega arith)

-- a fact about the limit of each MAP holds for the limit of each place
by-place : (P : ℕ → Type 0) (limits : ℕ → ℕ) (store : Store) → HaveLimits limits store → ((map_id : ℕ) → P (limits map_id)) → (place : ℕ) → place < 128 → P (limit_at store place)
by-place P limits store have each place inside =
    let p = place-split place inside in
    subst (λ (k : ℕ). P (limit_at store k)) (sym p.3) (subst P (sym (have p.0 p.1 p.2)) (each p.1))

pub small-at-start : (s : Settings) (limits : Limits) (store : Store) → AreLimits s limits → HaveLimits (limit_of limits) store → AreSmall store
small-at-start s limits store are have = by-place (λ n. n ≤ 65542) (limit_of limits) store have (λ map_id. each-small limits map_id are.octets are.others.0)

min-mono : (a b n : ℕ) → a ≤ b → min a n ≤ min b n
min-mono a b n le = omega arith

-- rooms of `item_size` octets are large enough for the items of each stream
pub fits-at-start : (limits : Limits) (store : Store) (segmented : Bool) → store.segmented ≡ segmented → HaveLimits (limit_of limits) store
    → (place : ℕ) → place < 128 → min (limit_at store place) (largest_item store.segmented) ≤ item_size limits segmented
fits-at-start limits store segmented is have place inside =
    let below = by-place (λ n. n ≤ largest_limit limits) (limit_of limits) store have (below-largest limits) place inside in
    subst (λ (t : Bool). min (limit_at store place) (largest_item t) ≤ item_size limits segmented) (sym is) (min-mono (limit_at store place) (largest_limit limits) (largest_item segmented) below)

-- the limits of listed MAPs

pub others-limit : (ms : List MapLimit) (others map_id : ℕ) → AllByRecursion (λ (m : MapLimit). m.map ≢ map_id) ms → limit_in ms others map_id ≡ others
others-limit [] others map_id none = refl
others-limit (m ∷ ms) others map_id none = rw (ne_eqb m.map map_id none.0) (others-limit ms others map_id none.1)

own-limit : (ms : List MapLimit) (others : ℕ) (i : ℕ) (m : MapLimit) → AreLimitedMapsApart ms → i < length ms → get_or ms i m ≡ m → limit_in ms others m.map ≡ m.octets
own-limit [] others i m apart lt at = absurd (omega arith)
own-limit (n ∷ ms) others zero m apart lt at = let same : eqb n.map m.map ≡ true = eq-eqb n.map m.map (ap (λ (x : MapLimit). x.map) at) in rw same (ap (λ (x : MapLimit). x.octets) at)
own-limit (n ∷ ms) others (suc i) m apart lt at =
    let later : get_or ms i m ≡ m = at in
    let other : n.map ≢ m.map = λ e. apart 0 (suc i) m (omega arith) lt (e ∙ ap (λ (x : MapLimit). x.map) (sym later)) in
    rw (ne_eqb n.map m.map other) (own-limit ms others i m (λ j k d jk kl. apart (suc j) (suc k) d (omega arith) (omega arith)) (omega arith) later)

pub listed-limit : (limits : Limits) (m : MapLimit) → AreLimitedMapsApart limits.maps → Contains limits.maps m → limit_of limits m.map ≡ m.octets
listed-limit limits m apart has = own-limit limits.maps limits.others has.0 m apart has.1 has.2

-- the table of all limits

pub small-set : (ns : List ℕ) (i n : ℕ) → AllByRecursion (λ (m : ℕ). m ≤ 65542) ns → n ≤ 65542 → AllByRecursion (λ (m : ℕ). m ≤ 65542) (set ns i n)
small-set [] i n all one = tt
small-set (m ∷ ns) zero n all one = (one, all.1)
small-set (m ∷ ns) (suc i) n all one = (all.0, small-set ns i n all.1 one)

pub table-next : (f : ℕ → ℕ) (ns : List ℕ) (i n : ℕ) → i < length ns → n ≡ f i → ((k : ℕ) → k < i → get_or ns k 0 ≡ f k) → (k : ℕ) → k < i + 1 → get_or (set ns i n) k 0 ≡ f k
table-next f ns i n inside is below k lt = elim (cases_eq k i) [
  | inl last ↦ rw last (get_or-set_same ns i n 0 inside ∙ is)
  | inr other ↦ get_or-set_other ns i k n 0 other ∙ below k (omega arith)
]
