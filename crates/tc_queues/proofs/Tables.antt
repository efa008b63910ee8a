-- The table that shows the places of all keys that an APID can be.
use Rattle.tc_queues.proofs.Names.{◌≡◌, ◌≢◌, ℕ, zero, suc, ◌+◌, ◌<◌, ◌≤◌, List, [], ◌∷◌, ◌++◌, length, take, replicate, get_or, ◌⊎◌, inl, inr, refl, sym, ap, ◌∙◌, arith, AllByRecursion, cases_eq, set, get_or-set_same, get_or-set_other, get_or-replicate, length-replicate, length-set, length-take, length-map, take_more, map_push, keys_of, StoredQueue, Keyed, ring_in, rings_in, IsFirst, AreFirst}
use Rattle.tc_queues.specs.Places.{ShowsFirst}
use Rattle.tc_queues.proofs.Lists.{all-append}

first-within : (a n : ℕ) (xs : List ℕ) → IsFirst a n xs → n < length xs
first-within a n [] first = absurd first
first-within a zero (x ∷ xs) first = omega arith
first-within a (suc n) (x ∷ xs) first = let lt = first-within a n xs first.1 in omega arith

pub first-key : (a n : ℕ) (xs : List ℕ) → IsFirst a n xs → a ≡ get_or xs n a
first-key a n [] first = absurd first
first-key a zero (x ∷ xs) first = first
first-key a (suc n) (x ∷ xs) first = first-key a n xs first.1

first-push : (a b n : ℕ) (xs : List ℕ) → IsFirst a n xs → IsFirst a n (xs ++ b ∷ [])
first-push a b n [] first = absurd first
first-push a b zero (x ∷ xs) first = first
first-push a b (suc n) (x ∷ xs) first = (first.0, first-push a b n xs first.1)

first-last : (b : ℕ) (xs : List ℕ) → AllByRecursion (λ x. b ≢ x) xs → IsFirst b (length xs) (xs ++ b ∷ [])
first-last b [] none = refl
first-last b (x ∷ xs) none = (none.0, first-last b xs none.1)

-- an entry still shows the first place of its key, or that there is none, when there is one more queue with another key
shows-more : (keys : List ℕ) (none a b n : ℕ) → a ≢ b → ShowsFirst keys none a n → ShowsFirst (keys ++ b ∷ []) none a n
shows-more keys none a b n other (inl at) = inl (first-push a b n keys at)
shows-more keys none a b n other (inr away) = inr (away.0, all-append (λ x. a ≢ x) keys (b ∷ []) away.1 (other, tt))

-- if an entry shows no place, no queue has its key
none-reported : (keys : List ℕ) (none a n : ℕ) → length keys ≤ none → n ≡ none → ShowsFirst keys none a n → AllByRecursion (λ x. a ≢ x) keys
none-reported keys none a n le is (inl at) = let lt = first-within a n keys at in absurd (omega arith)
none-reported keys none a n le is (inr away) = away.1

-- an entry that shows a place still shows it when there is one more queue
reported-kept : (keys : List ℕ) (none a b n : ℕ) → n ≢ none → ShowsFirst keys none a n → ShowsFirst (keys ++ b ∷ []) none a n
reported-kept keys none a b n is (inl at) = inl (first-push a b n keys at)
reported-kept keys none a b n is (inr away) = absurd (is away.0)

table-more : (keys : List ℕ) (none b n : ℕ) (table : List ℕ) → AreFirst keys none table → n ≡ length keys → length keys ≤ none → b < 2048 → get_or table b 0 ≡ none → AreFirst (keys ++ b ∷ []) none (set table b n)
table-more keys none b n table t is le lt free = record { size = length-set table b n ∙ t.size; shows = λ a small. by a small (cases_eq a b) } where
  new : IsFirst b n (keys ++ b ∷ [])
  new = rw is (first-last b keys (none-reported keys none b (get_or table b 0) le free (t.shows b lt)))

  by : (a : ℕ) → a < 2048 → (a ≡ b) ⊎ (a ≢ b) → ShowsFirst (keys ++ b ∷ []) none a (get_or (set table b n) a 0)
  by a small (inl same) = rw (same, get_or-set_same table b n 0 (let s = t.size in omega arith)) (inl new)
  by a small (inr other) = rw (get_or-set_other table b a n 0 other) (shows-more keys none a b (get_or table a 0) other (t.shows a small))

table-kept : (keys : List ℕ) (none b : ℕ) (table : List ℕ) → AreFirst keys none table → get_or table b 0 ≢ none → AreFirst (keys ++ b ∷ []) none table
table-kept keys none b table t taken = record { size = t.size; shows = λ a small. by a small (cases_eq a b) } where
  by : (a : ℕ) → a < 2048 → (a ≡ b) ⊎ (a ≢ b) → ShowsFirst (keys ++ b ∷ []) none a (get_or table a 0)
  by a small (inl same) = reported-kept keys none a b (get_or table a 0) (rw same taken) (t.shows a small)
  by a small (inr other) = shows-more keys none a b (get_or table a 0) other (t.shows a small)

table-skip : (keys : List ℕ) (none b : ℕ) (table : List ℕ) → AreFirst keys none table → 2048 ≤ b → AreFirst (keys ++ b ∷ []) none table
table-skip keys none b table t far = record { size = t.size; shows = λ a small. shows-more keys none a b (get_or table a 0) (λ e. absurd (omega arith)) (t.shows a small) }

keys-more : (qs : List Keyed) (i : ℕ) (q : Keyed) → i < length qs → q ≡ get_or qs i q → keys_of (rings_in (take (i + 1) qs)) ≡ keys_of (rings_in (take i qs)) ++ q.key ∷ []
keys-more qs i q lt is =
    ap (λ (x : List Keyed). keys_of (rings_in x)) (take_more qs i q lt ∙ ap (λ (x : Keyed). take i qs ++ x ∷ []) (sym is))
    ∙ ap keys_of (map_push ring_in (take i qs) q) ∙ map_push (λ (w : StoredQueue). w.key) (rings_in (take i qs)) (ring_in q)

keys-count : (qs : List Keyed) (i : ℕ) → i ≤ length qs → length (keys_of (rings_in (take i qs))) ≡ i
keys-count qs i le = omega (arith, length-take i qs, length-map (take i qs) ring_in, length-map (rings_in (take i qs)) (λ (w : StoredQueue). w.key))

pub next-place : (qs : List Keyed) (i none : ℕ) (q : Keyed) (table : List ℕ) → i < length qs → length qs ≤ none → q ≡ get_or qs i q → q.key < 2048 → get_or table q.key 0 ≡ none
    → AreFirst (keys_of (rings_in (take i qs))) none table → AreFirst (keys_of (rings_in (take (i + 1) qs))) none (set table q.key i)
next-place qs i none q table lt le is small free t =
    let count = keys-count qs i (omega arith) in
    rw (keys-more qs i q lt is) (table-more (keys_of (rings_in (take i qs))) none q.key i table t (sym count) (omega arith) small free)

pub kept-place : (qs : List Keyed) (i none : ℕ) (q : Keyed) (table : List ℕ) → i < length qs → q ≡ get_or qs i q → get_or table q.key 0 ≢ none
    → AreFirst (keys_of (rings_in (take i qs))) none table → AreFirst (keys_of (rings_in (take (i + 1) qs))) none table
kept-place qs i none q table lt is taken t = rw (keys-more qs i q lt is) (table-kept (keys_of (rings_in (take i qs))) none q.key table t taken)

pub skip-place : (qs : List Keyed) (i none : ℕ) (q : Keyed) (table : List ℕ) → i < length qs → q ≡ get_or qs i q → 2048 ≤ q.key
    → AreFirst (keys_of (rings_in (take i qs))) none table → AreFirst (keys_of (rings_in (take (i + 1) qs))) none table
skip-place qs i none q table lt is far t = rw (keys-more qs i q lt is) (table-skip (keys_of (rings_in (take i qs))) none q.key table t far)

-- if the table shows the place of a queue for a key, it is the first place with this key
pub reported-first : (keys table : List ℕ) (none key : ℕ) → AreFirst keys none table → none ≡ length keys → key < length table → get_or table key 0 < length keys → IsFirst key (get_or table key 0) keys
reported-first keys table none key t is lt at = by (t.shows key (let s = t.size in omega arith)) where
  by : ShowsFirst keys none key (get_or table key 0) → IsFirst key (get_or table key 0) keys
  by (inl first) = first
  by (inr away) = let e = away.0 in absurd (omega arith)

pub reported-none : (keys table : List ℕ) (none key : ℕ) → AreFirst keys none table → key < length table → length keys ≤ get_or table key 0 → AllByRecursion (λ (x : ℕ). key ≢ x) keys
reported-none keys table none key t lt at = by (t.shows key (let s = t.size in omega arith)) where
  by : ShowsFirst keys none key (get_or table key 0) → AllByRecursion (λ (x : ℕ). key ≢ x) keys
  by (inl first) = let i = first-within key (get_or table key 0) keys first in absurd (omega arith)
  by (inr away) = away.1

pub keys-length : (qs : List Keyed) → length (keys_of (rings_in qs)) ≡ length qs
keys-length qs = length-map (rings_in qs) (λ (w : StoredQueue). w.key) ∙ length-map qs ring_in

-- before the first queue, the table shows no places
pub no-queue : (table : List ℕ) (none n : ℕ) → table ≡ replicate 2048 n → n ≡ none → AreFirst [] none table
no-queue table none n is none_is = record { size = ap length is ∙ length-replicate 2048 n; shows = λ a small. inr (ap (λ (t : List ℕ). get_or t a 0) is ∙ get_or-replicate 2048 a n 0 small ∙ none_is, tt) }
