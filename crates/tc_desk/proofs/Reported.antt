-- The operators that are reported to an owner, one after the other, and the number of events that they have made in
-- all.
use Rattle.tc_desk.proofs.Names.{◌≡◌, ◌<◌, ◌≤◌, ◌+◌, ℕ, List, [], ◌∷◌, ◌++◌, length, map, take, get_or, min, refl, sym, ap, ◌∙◌, append_assoc, arith, ◌^◌, ◌-◌, length-map, total_made, Own, AtLock, AtHand, accounts_of, reported_at, column, nobody, sum_by, map_push, take_all}
use Rattle.std.proofs.lemmas.List.Sums.{sum_by_more, sum_by-cons}
use Rattle.std.proofs.lemmas.Simd.{map-map}

abbrev most : ℕ
most = 2 ^ 64 - 1

module _ {X : Type 0} where
  -- if one more operator is counted, the total is the number of events that all operators up to this one have made
  pub more_counted : (f : X → ℕ) (xs : List X) (i : ℕ) (x : X) (total count next : ℕ) → x ≡ get_or xs i x → i < length xs → total ≡ min (sum_by f (take i xs)) most
      → count ≡ min (f x) most → next ≡ min (total + count) most → next ≡ min (sum_by f (take (i + 1) xs)) most
  more_counted f xs i x total count next here inside so one is =
      let more = sum_by_more f xs i x inside in
      let this : f x ≡ f (get_or xs i x) = ap f here in
      omega (arith, more, this, so, one, is)

  total-sum : (own : X → Own) (xs : List X) → total_made (map own xs) ≡ sum_by (λ (x : X). length (own x).made) xs
  total-sum own [] = refl
  total-sum own (x ∷ xs) = ap (λ (m : ℕ). length (own x).made + m) (total-sum own xs) ∙ sym (sum_by-cons (λ (y : X). length (own y).made) x xs)

  -- once all operators are counted, the total is the number of events that they have made together
  pub all_counted : (own : X → Own) (xs : List X) (i total : ℕ) → length xs ≤ i → total ≡ min (sum_by (λ (x : X). length (own x).made) (take i xs)) most → total ≡ min (total_made (map own xs)) most
  all_counted own xs i total end so = so ∙ ap (λ (m : ℕ). min m most) (ap (λ (l : List X). sum_by (λ (x : X). length (own x).made) l) (take_all i xs end) ∙ sym (total-sum own xs))

  -- the accounts at the desk at a place are those of one operator from each list
  pub own-column : (at : X → List AtLock) (place : ℕ) (xs : List X) → accounts_of (column place (map at xs)) ≡ map (λ (x : X). (get_or (at x) place nobody).own) xs
  own-column at place xs = map-map (λ (o : AtLock). o.own) (λ (operator_list : List AtLock). get_or operator_list place nobody) (map at xs) ∙ map-map (λ (operator_list : List AtLock). (get_or operator_list place nobody).own) at xs

  pub many-column : (at : X → List AtLock) (place : ℕ) (xs : List X) → length xs ≡ length (accounts_of (column place (map at xs)))
  many-column at place xs = sym (ap (length {A = Own}) (own-column at place xs) ∙ length-map xs (λ (x : X). (get_or (at x) place nobody).own))
