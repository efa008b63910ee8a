-- What the calls of a judge do, with the values that they compute as variables.
use Rattle.std.specs.Prelude.{◌≡◌, ◌≢◌, ◌⊎◌, ℕ, ◌+◌, ◌-◌, ◌<◌, ◌≤◌, ◌↔◌, Bool, true, false, IsTrue, List, [], ◌∷◌, ◌++◌, drop, length, slice_index_or}
use Rattle.std.proofs.Common.{subst, sym, refl, ap, ◌∙◌, arith, inl, inr}
use Rattle.std.proofs.lemmas.Bool.{cases_eq}
use Rattle.std.proofs.lemmas.List.{get_or-drop}
use Rattle.tc_sender.specs.Account.{distance, vr_after, Seen, Arrived, Made, Set, SenderExplains, ExplainsFrom, IsKnown, IsWithin}
use Rattle.tc_sender.proofs.Sending.{first-place, no-place, not-expected, dropped-known}
use Rattle.tc_sender.proofs.Knowing.{after-known, noted, noted-back, known-already, noted-known, room-for, not-empty, set-on, unset-on}

-- the place of the first number from which on the frame is within the window
abbrev pub IsFirst : ℕ → ℕ → List ℕ → ℕ → Type 0
IsFirst window ns numbers p =
    (p < length numbers) × IsWithin window (slice_index_or numbers p 0) ns × ((k : ℕ) → k < p → IsWithin window (slice_index_or numbers k 0) ns → ⊥)

abbrev pub IsNone : ℕ → ℕ → List ℕ → Type 0
IsNone window ns numbers = (k : ℕ) → k < length numbers → IsWithin window (slice_index_or numbers k 0) ns → ⊥

pub expected : (accepted b : Bool) (ns vr : ℕ) → (IsTrue b ↔ ((accepted ≡ true) × (ns ≢ vr))) → b ≡ false → accepted ≡ true → ns ≡ vr
expected accepted b ns vr means off a = by (cases_eq ns vr) where
  by : (ns ≡ vr) ⊎ (ns ≢ vr) → ns ≡ vr
  by (inl e) = e
  by (inr ne) = let on : b ≡ true = means.1 (a, ne) in absurd (cc (on, off))

pub arrived-so : (window w vr ns p v : ℕ) (accepted : Bool) (field numbers seen later : List ℕ) → w ≡ window → seen ≡ numbers → later ≡ drop p numbers
    → v ≡ vr_after accepted vr → IsKnown window numbers vr → ns < 256 → (accepted ≡ true → ns ≡ vr) → IsFirst w ns seen p
    → (items : List Seen) → ExplainsFrom window later v items ↔ ExplainsFrom window numbers vr (Arrived ns accepted field ∷ items)
arrived-so window w vr ns p v accepted field numbers seen later we se le ve k small fits is items =
    let first : IsFirst window ns numbers p = subst (λ m. IsFirst m ns numbers p) we (subst (λ s. IsFirst w ns s p) se is) in
    subst (λ l. ExplainsFrom window l v items ↔ ExplainsFrom window numbers vr (Arrived ns accepted field ∷ items)) (sym le)
    (subst (λ u. ExplainsFrom window (drop p numbers) u items ↔ ExplainsFrom window numbers vr (Arrived ns accepted field ∷ items)) (sym ve)
    (first-place window vr vr ns p accepted field numbers items k first.0 first.1 first.2 fits small))

pub arrived-known : (window w vr ns p v : ℕ) (accepted : Bool) (numbers seen later : List ℕ) → window ≤ 127 → w ≡ window → seen ≡ numbers → later ≡ drop p numbers
    → v ≡ vr_after accepted vr → IsKnown window numbers vr → (accepted ≡ true → ns ≡ vr) → IsFirst w ns seen p → IsKnown window later v
arrived-known window w vr ns p v accepted numbers seen later h we se le ve k fits is =
    let first : IsFirst window ns numbers p = subst (λ m. IsFirst m ns numbers p) we (subst (λ s. IsFirst w ns s p) se is) in
    let none : p + 0 ≡ p = omega arith in
    let at : slice_index_or (drop p numbers) 0 0 ≡ slice_index_or numbers p 0 = get_or-drop p numbers 0 0 ∙ ap (λ i. slice_index_or numbers i 0) none in
    let within : distance (slice_index_or (drop p numbers) 0 0) ns < window = subst (λ n. distance n ns < window) (sym at) first.1 in
    subst (λ l. IsKnown window l v) (sym le)
    (subst (λ u. IsKnown window (drop p numbers) u) (sym ve) (after-known window vr ns accepted (drop p numbers) h fits within (dropped-known window vr p numbers first.0 k)))

pub breach-so : (window w vr ns : ℕ) (accepted : Bool) (field numbers seen : List ℕ) → w ≡ window → seen ≡ numbers → IsKnown window numbers vr → IsNone w ns seen
    → (items : List Seen) → ExplainsFrom window numbers vr (Arrived ns accepted field ∷ items) → ⊥
breach-so window w vr ns accepted field numbers seen we se k is items =
    no-place window vr vr ns accepted field numbers items k (subst (λ m. IsNone m ns numbers) we (subst (λ s. IsNone w ns s) se is))

pub otherwise-so : (window vr ns : ℕ) (accepted b : Bool) (field numbers : List ℕ) → IsKnown window numbers vr → (IsTrue b ↔ ((accepted ≡ true) × (ns ≢ vr))) → b ≡ true
    → (items : List Seen) → ExplainsFrom window numbers vr (Arrived ns accepted field ∷ items) → ⊥
otherwise-so window vr ns accepted b field numbers k means on items = let m = means.0 on in not-expected window vr vr ns accepted field numbers items k m.0 m.1

pub made-so : (window vr q : ℕ) (numbers later : List ℕ) → q ≡ vr → IsKnown window numbers vr
    → (slice_index_or numbers (length numbers - 1) q ≢ q → later ≡ numbers ++ q ∷ []) → (slice_index_or numbers (length numbers - 1) q ≡ q → later ≡ numbers)
    → (items : List Seen) → ExplainsFrom window later vr items ↔ ExplainsFrom window numbers vr (Made q ∷ items)
made-so window vr q numbers later is k added same items = by (cases_eq (slice_index_or numbers (length numbers - 1) q) q) where
  by : (slice_index_or numbers (length numbers - 1) q ≡ q) ⊎ (slice_index_or numbers (length numbers - 1) q ≢ q)
      → ExplainsFrom window later vr items ↔ ExplainsFrom window numbers vr (Made q ∷ items)
  by (inl e) = subst (λ l. ExplainsFrom window l vr items ↔ ExplainsFrom window numbers vr (Made q ∷ items)) (sym (same e)) (known-already window vr vr q numbers items is e k)
  by (inr ne) = subst (λ l. ExplainsFrom window l vr items ↔ ExplainsFrom window numbers vr (Made q ∷ items)) (sym (added ne))
      ((λ o. noted window vr q numbers items is o (not-empty window vr numbers k)), (λ o. noted-back window vr q numbers items is o))

pub made-known : (window vr q : ℕ) (numbers later : List ℕ) → q ≡ vr → IsKnown window numbers vr
    → (slice_index_or numbers (length numbers - 1) q ≢ q → later ≡ numbers ++ q ∷ []) → (slice_index_or numbers (length numbers - 1) q ≡ q → later ≡ numbers)
    → IsKnown window later vr
made-known window vr q numbers later is k added same = by (cases_eq (slice_index_or numbers (length numbers - 1) q) q) where
  by : (slice_index_or numbers (length numbers - 1) q ≡ q) ⊎ (slice_index_or numbers (length numbers - 1) q ≢ q) → IsKnown window later vr
  by (inl e) = subst (λ l. IsKnown window l vr) (sym (same e)) k
  by (inr ne) = subst (λ l. IsKnown window l vr) (sym (added ne)) (noted-known window vr numbers q is ne k)

pub starts-known : (window vr : ℕ) (numbers : List ℕ) → vr < 256 → numbers ≡ vr ∷ [] → IsKnown window numbers vr
starts-known window vr numbers h e = let z : distance vr vr ≡ 0 = omega (arith, h) in subst (λ l. IsKnown window l vr) (sym e) (h, h, omega (arith, z), tt)

pub set-so : (window vr q : ℕ) (numbers cleared later : List ℕ) → cleared ≡ [] → later ≡ cleared ++ q ∷ [] → IsKnown window numbers vr → q < 256
    → (items : List Seen) → ExplainsFrom window later q items ↔ ExplainsFrom window numbers vr (Set q ∷ items)
set-so window vr q numbers cleared later ce le k small items =
    let is : later ≡ q ∷ [] = le ∙ ap (λ l. l ++ q ∷ []) ce in
    subst (λ l. ExplainsFrom window l q items ↔ ExplainsFrom window numbers vr (Set q ∷ items)) (sym is)
    ((λ o. set-on window vr q numbers items (not-empty window vr numbers k) small o), (λ o. unset-on window vr q numbers items o))
