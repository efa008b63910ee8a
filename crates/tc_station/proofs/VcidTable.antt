-- The filling of the table of virtual channel ids, and its contents afterwards.
use Rattle.tc_station.proofs.Names.{◌≡◌, ◌≢◌, ℕ, suc, ◌<◌, ◌≤◌, Bool, true, false, cond, List, [], ◌∷◌, length, get_or, replicate, Option, Some, None, refl, sym, ap, ◌∙◌, arith, ◌==◌, All, AllPairs, Contains, position, slice_index, eqb-true, get_or-map, length-map, position-Some, none-some, IsAllowed, Settings, vcids_of, true≢false, ltb, eqb, MatchOption, list_any, position_or_len, eq-eqb, ltb-false, ltb-true, Decides-eqb, length-replicate, fails_before_first, passes_at_first, HaveDistinctVcids}
use Rattle.std.proofs.lemmas.List.Folds.{Any-from_list_any}
use Rattle.std.proofs.lemmas.Map.Made.{IsDistinct-from_AllPairs}
use Rattle.std.proofs.lemmas.Map.Steps.{length-le_from_distinct_below}
use Rattle.tc_station.specs.VcidTable.{IsVcidTable, entry_place}

-- The table has the place of each of the first `n` ids. For any other number, it has no entry, or an entry that stands
-- for no place.
pub record HaveEntries (ids : List ℕ) (n : ℕ) (table : List ℕ) : Type 0 where
  pub size : length table ≡ 64
  pub here : (k : ℕ) → k < n → get_or table (get_or ids k 0) 64 ≡ k
  pub apart : (v : ℕ) → ((k : ℕ) → k < n → get_or ids k 0 ≢ v) → get_or table v 64 ≡ 64

all-alike : (n v x : ℕ) → get_or (replicate n x) v x ≡ x
all-alike (suc n) (suc v) x = all-alike n v x
all-alike _ _ x = refl

pub none-entered : (ids table : List ℕ) → table ≡ replicate 64 64 → HaveEntries ids 0 table
none-entered ids table is = record {
  size = ap (length {A = ℕ}) is ∙ length-replicate {A = ℕ} 64 64;
  here = λ k lt. absurd (omega (arith, lt));
  apart = λ v none. ap (λ (t : List ℕ). get_or t v 64) is ∙ all-alike 64 v 64;
}

entry-place : (k : ℕ) → k ≢ 64 → entry_place k ≡ Some k
entry-place k some = grind (arith, some)

-- a table with the places of all ids is the table of these ids
pub table-of : (ids table : List ℕ) → length ids ≤ 64 → HaveEntries ids (length ids) table → IsVcidTable ids table
table-of ids table few t v = by (ltb n (length ids)) refl where
  n : ℕ
  n = position_or_len (λ x. x == v) ids

  by : (b : Bool) → ltb n (length ids) ≡ b → cond b (Some n) None ≡ entry_place (get_or table v 64)
  by true is =
      let lt = ltb-true n (length ids) is in
      let there : get_or ids n 0 ≡ v = eqb-true (get_or ids n 0) v (passes_at_first (λ x. x == v) ids 0 lt) in
      let entry : get_or table v 64 ≡ n = ap (λ j. get_or table j 64) (sym there) ∙ t.here n lt in
      sym (ap entry_place entry ∙ entry-place n (λ e. absurd (omega (arith, e, lt, few))))
  by false is =
      let ge = ltb-false n (length ids) is in
      let none : (k : ℕ) → k < length ids → get_or ids k 0 ≢ v = λ k lt e. true≢false (sym (eq-eqb (get_or ids k 0) v e) ∙ fails_before_first (λ x. x == v) ids k 0 (omega (arith, lt, ge))) in
      sym (ap entry_place (t.apart v none))

-- there are at most 64 distinct ids
pub few-ids : (ids : List ℕ) → AllPairs (λ x y. x ≢ y) ids → All (λ v. v ≤ 63) ids → length ids ≤ 64
few-ids ids distinct small = length-le_from_distinct_below ids 64 (IsDistinct-from_AllPairs Decides-eqb ids distinct) below where
  below : (q : ℕ) → list_any (eqb q) ids ≡ true → q < 64
  below q has =
      let a = Any-from_list_any (eqb q) ids has in
      let le = small a.0 a.1 a.2 in
      let at = a.3 in
      let same = eqb-true q a.1 a.4 in omega arith

-- the id at a place is the id in the settings at this place
id-at : (s : Settings) (ss : List Settings) (k d : ℕ) → k < length (s ∷ ss) → get_or (vcids_of (s ∷ ss)) k d ≡ (get_or (s ∷ ss) k s).vcid
id-at s ss k d lt = get_or-map (λ (x : Settings). x.vcid) (s ∷ ss) k s d lt

inside : (list : List Settings) (k : ℕ) → k < length (vcids_of list) → k < length list
inside list k lt = omega (arith, lt, length-map list (λ (x : Settings). x.vcid))

pub distinct-ids : (list : List Settings) → HaveDistinctVcids list → AllPairs (λ x y. x ≢ y) (vcids_of list)
distinct-ids [] apart i j d before lt = absurd (omega (arith, lt))
distinct-ids (s ∷ ss) apart i j d before lt =
    let within = inside (s ∷ ss) j lt in
    λ e. apart i j s before within (sym (id-at s ss i d (omega (arith, before, within))) ∙ (e ∙ id-at s ss j d within))

pub small-ids : (list : List Settings) → All IsAllowed list → All (λ v. v ≤ 63) (vcids_of list)
small-ids [] allowed k d lt = absurd (omega (arith, lt))
small-ids (s ∷ ss) allowed k d lt =
    let within = inside (s ∷ ss) k lt in
    let le = (allowed k s within).vcid in omega (arith, le, id-at s ss k d within)

-- an id without a place isn't among the ids
not-there : (ids : List ℕ) (v : ℕ) → None ≡ position (λ x. x == v) ids → ¬ Contains ids v
not-there ids v is (k, lt, e) = by (ltb n (length ids)) refl is where
  n : ℕ
  n = position_or_len (λ x. x == v) ids

  by : (b : Bool) → ltb n (length ids) ≡ b → None ≡ cond b (Some n) None → ⊥
  by true there none = none-some n none
  by false far none =
      let ge = ltb-false n (length ids) far in
      true≢false (sym (eq-eqb (get_or ids k v) v e) ∙ fails_before_first (λ x. x == v) ids k v (omega (arith, lt, ge)))

-- the search for an id finds a place at which the list has the id, or no place if the list doesn't have it
pub found-there : (ids : List ℕ) (v : ℕ) (place : Option ℕ) → place ≡ position (λ x. x == v) ids → MatchOption place (¬ Contains ids v) (λ k. (k < length ids) × (slice_index ids k ≡ v))
found-there ids v None is = not-there ids v is
found-there ids v (Some k) is = let at = position-Some (λ x. x == v) ids k 0 (sym is) in (at.0, eqb-true (get_or ids k 0) v at.1)
