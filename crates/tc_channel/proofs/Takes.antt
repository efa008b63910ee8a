-- Lemmas about taking a packet or a unit.
use Rattle.tc_channel.proofs.Names.{◌≡◌, ◌≢◌, ℕ, suc, ◌+◌, ◌<◌, Bool, true, false, cond, eqb, List, [], ◌∷◌, ◌++◌, length, map, Option, Some, None, refl, sym, ap, ◌∙◌, IsSome, inl, inr, arith, nat_lt, option_map, slice_get, option_and_then, AllByRecursion, drop-drop, length-drop, map-map, Settings, Event, Take, TakeUnit, Inside, HoldsWithin, Queue, waiting, queue_of, taken_from, run_within, StoredQueue, AreDistinct, keys_of, stored, queue_for, popped, shorter, nat_tests, eqb_tells}
use Rattle.tc_channel.specs.Reply.{waiting_packets_within, waiting_units_within}
use Rattle.tc_channel.specs.Run.{HasItem}
use Rattle.tc_queues.specs.StoredQueues.{items_for}
use Rattle.tc_channel.proofs.Runs.{step-keeps}
use Rattle.tc_channel.proofs.StateQueues.{keys, queues-apart, units-apart}

pub stored-queue : (key : ℕ) (qs : List Queue) → queue_for key (map stored qs) ≡ option_map stored (queue_of key qs)
stored-queue key [] = refl
stored-queue key (q ∷ qs) = by (eqb q.key key) (stored-queue key qs) where
  by : (t : Bool) → queue_for key (map stored qs) ≡ option_map stored (queue_of key qs) → cond t (Some (stored q)) (queue_for key (map stored qs)) ≡ option_map stored (cond t (Some q) (queue_of key qs))
  by true h = refl
  by false h = h

one-taken : (key : ℕ) (q : Queue) → eqb q.key key ≡ true → q.taken < length q.admitted → taken_from key q ≡ record q { taken = q.taken + 1 }
one-taken key q same some = let t : nat_lt q.taken (length q.admitted) ≡ true = grind (arith, nat_tests) in rw (same, t) refl

none-taken : (key : ℕ) (q : Queue) → eqb q.key key ≡ false → taken_from key q ≡ q
none-taken key q other = rw other refl

others-stay : (key : ℕ) (a : ℕ) (qs : List Queue) → a ≡ key → AllByRecursion (λ b. a ≢ b) (keys qs) → map (taken_from key) qs ≡ qs
others-stay key a [] e h = refl
others-stay key a (q ∷ qs) e h = elim (eqb_tells q.key key) [
  | inl same ↦ absurd (h.0 (e ∙ sym same.1))
  | inr other ↦ rw (none-taken key q other.0) (ap (λ (x : List Queue). q ∷ x) (others-stay key a qs e h.1))
]

-- if an item waits in the queue, the stored queues without it are those of the next state
pub popped-taken : (key : ℕ) (qs : List Queue) (q : Queue) → AreDistinct (keys qs) → queue_of key qs ≡ Some q → q.taken < length q.admitted
    → popped key (map stored qs) ≡ map stored (map (taken_from key) qs)
popped-taken key [] q apart is some = absurd cc
popped-taken key (p ∷ qs) q apart is some = elim (eqb_tells p.key key) [
  | inl same ↦ (
      let e : p ≡ q = (let i : Some p ≡ Some q = rw same.0 at is in cc) in
      let one = one-taken key p same.0 (rw e some) in
      let rest = others-stay key p.key qs same.1 apart.0 in
      let tail : map stored (map (taken_from key) (p ∷ qs)) ≡ stored (record p { taken = p.taken + 1 }) ∷ map stored qs = ap (λ (x : Queue). stored x ∷ map stored (map (taken_from key) qs)) one ∙ ap (λ (x : List Queue). stored (record p { taken = p.taken + 1 }) ∷ map stored x) rest in
      let head : popped key (map stored (p ∷ qs)) ≡ shorter (stored p) ∷ map stored qs = rw same.0 refl in
      head ∙ (ap (λ (x : List (List ℕ)). record { key = p.key; ring = record { items = x; capacity = p.capacity } } ∷ map stored qs) (drop-drop 1 p.taken p.admitted) ∙ sym tail))
  | inr other ↦ (
      let none = none-taken key p other.0 in
      let i : queue_of key qs ≡ Some q = rw other.0 at is in
      let rest = popped-taken key qs q apart.1 i some in
      let tail : map stored (map (taken_from key) (p ∷ qs)) ≡ stored p ∷ map stored (map (taken_from key) qs) = ap (λ (x : Queue). stored x ∷ map stored (map (taken_from key) qs)) none in
      let head : popped key (map stored (p ∷ qs)) ≡ stored p ∷ popped key (map stored qs) = rw other.0 refl in
      head ∙ ap (λ (x : List StoredQueue). stored p ∷ x) rest ∙ sym tail)
]

pub can-take : (key : ℕ) (qs : List Queue) (q : Queue) → queue_of key qs ≡ Some q → q.taken < length q.admitted → HasItem key qs
can-take key [] q is some = absurd cc
can-take key (p ∷ qs) q is some = elim (eqb_tells p.key key) [
  | inl same ↦ (let e : p ≡ q = (let i : Some p ≡ Some q = rw same.0 at is in cc) in (0, p, omega arith, refl, (same.1, rw e some)))
  | inr other ↦ (let i : queue_of key qs ≡ Some q = rw other.0 at is in let k = can-take key qs q i some in (suc k.0, k.1, (let l = k.2 in omega arith), k.3, k.4))
]

nonempty : (xs : List (List ℕ)) (item : List ℕ) → slice_get xs 0 ≡ Some item → 0 < length xs
nonempty [] item e = absurd cc
nonempty (x ∷ xs) item e = omega arith

-- the oldest of the items that wait, if there is a queue and an item in it
abbrev pub oldest : Option (List (List ℕ)) → Option (List ℕ)
oldest items = option_and_then (λ xs. slice_get xs 0) items

has-oldest : (o : Option Queue) (item : List ℕ) → oldest (option_map (λ (w : StoredQueue). w.ring.items) (option_map stored o)) ≡ Some item → (q : Queue) × (o ≡ Some q) × (q.taken < length q.admitted)
has-oldest None item e = absurd cc
has-oldest (Some q) item e = (q, refl, omega (arith, nonempty (waiting q) item e, length-drop q.taken q.admitted))

-- if the oldest item with a key was taken, an item waited in a queue with this key, and the stored queues are those of
-- the state after the take
pub oldest-taken : (key : ℕ) (qs : List Queue) (old new : List StoredQueue) (item : List ℕ) → AreDistinct (keys qs) → old ≡ map stored qs → oldest (items_for key old) ≡ Some item → new ≡ popped key old
    → HasItem key qs × (new ≡ map stored (map (taken_from key) qs))
oldest-taken key qs old new item apart are has is =
    let found : oldest (option_map (λ (w : StoredQueue). w.ring.items) (option_map stored (queue_of key qs))) ≡ Some item = rw (are, stored-queue key qs) at has in
    let q = has-oldest (queue_of key qs) item found in
    (can-take key qs q.0 q.1 q.2, is ∙ ap (popped key) are ∙ popped-taken key qs q.0 apart q.1 q.2)

pub take-keeps : {limits : ℕ → ℕ} {c : Settings} {j : List Event} {i : Inside} (later : List StoredQueue) (apid : ℕ) (packet : List ℕ)
    → HoldsWithin limits c j i → oldest (items_for apid i.rings) ≡ Some packet → later ≡ popped apid i.rings → HoldsWithin limits c (j ++ Take apid ∷ []) (record i { rings = later })
take-keeps {limits} {c} {j} {i} later apid packet k has is =
    let taken = oldest-taken apid (run_within limits c j).queues i.rings later packet (queues-apart limits c j k.allowed) k.queues has is in
    step-keeps (Take apid) (record i { rings = later }) k taken.0 refl k.report refl k.fields k.runs taken.1 k.units

pub take-unit-keeps : {limits : ℕ → ℕ} {c : Settings} {j : List Event} {i : Inside} (later : List StoredQueue) (map_id : ℕ) (unit : List ℕ)
    → HoldsWithin limits c j i → oldest (items_for map_id i.unit_rings) ≡ Some unit → later ≡ popped map_id i.unit_rings → HoldsWithin limits c (j ++ TakeUnit map_id ∷ []) (record i { unit_rings = later })
take-unit-keeps {limits} {c} {j} {i} later map_id unit k has is =
    let taken = oldest-taken map_id (run_within limits c j).units i.unit_rings later unit (units-apart limits c j k.allowed) k.units has is in
    step-keeps (TakeUnit map_id) (record i { unit_rings = later }) k taken.0 refl k.report refl k.fields k.runs k.queues taken.1

items-map : (o : Option Queue) → option_map waiting o ≡ option_map (λ (w : StoredQueue). w.ring.items) (option_map stored o)
items-map None = refl
items-map (Some q) = refl

-- the items that wait for a key in the state are those in the stored queues
items-wait : (key : ℕ) (rings : List StoredQueue) (qs : List Queue) → rings ≡ map stored qs → option_map waiting (queue_of key qs) ≡ items_for key rings
items-wait key rings qs are = rw are (items-map (queue_of key qs) ∙ ap (option_map (λ (w : StoredQueue). w.ring.items)) (sym (stored-queue key qs)))

pub packets-wait : {limits : ℕ → ℕ} {c : Settings} {j : List Event} {i : Inside} (apid : ℕ) → HoldsWithin limits c j i → waiting_packets_within limits c j apid ≡ items_for apid i.rings
unfolding waiting_packets_within
packets-wait {limits} {c} {j} {i} apid k = items-wait apid i.rings (run_within limits c j).queues k.queues

pub units-wait : {limits : ℕ → ℕ} {c : Settings} {j : List Event} {i : Inside} (map_id : ℕ) → HoldsWithin limits c j i → waiting_units_within limits c j map_id ≡ items_for map_id i.unit_rings
unfolding waiting_units_within
units-wait {limits} {c} {j} {i} map_id k = items-wait map_id i.unit_rings (run_within limits c j).units k.units

pub same-keys : (qs : List Queue) → keys_of (map stored qs) ≡ keys qs
same-keys qs = map-map (λ (w : StoredQueue). w.key) stored qs

pub queues-distinct : {limits : ℕ → ℕ} {c : Settings} {j : List Event} {i : Inside} → HoldsWithin limits c j i → AreDistinct (keys_of i.rings)
queues-distinct {limits} {c} {j} k = rw (k.queues, same-keys (run_within limits c j).queues) (queues-apart limits c j k.allowed)

pub units-distinct : {limits : ℕ → ℕ} {c : Settings} {j : List Event} {i : Inside} → HoldsWithin limits c j i → AreDistinct (keys_of i.unit_rings)
units-distinct {limits} {c} {j} k = rw (k.units, same-keys (run_within limits c j).units) (units-apart limits c j k.allowed)

pub one-is-taken : {A : Type 0} (f : A → List ℕ) (taken : Option A) (n : ℕ) (waiting : Option (List (List ℕ))) → Some n ≡ option_map length waiting → n ≢ 0 → option_map f taken ≡ option_and_then (λ items. slice_get items 0) waiting → IsSome taken
one-is-taken f (Some x) n waiting count some is = refl
one-is-taken f None n (Some []) count some is = absurd (some (let e : n ≡ 0 = cc in e))
one-is-taken f None n (Some (x ∷ items)) count some is = absurd cc
one-is-taken f None n None count some is = absurd cc
