-- The judge's walk along the frames on their way.
use Rattle.std.specs.Prelude.{◌≡◌, ℕ, zero, suc, ◌<◌, ◌≤◌, ◌⊎◌, ◌↔◌, Bool, false, IsTrue, List, [], ◌∷◌, ◌++◌, drop, slice_get, length, slice_index_or}
use Rattle.std.proofs.Common.{subst, sym, refl, inl, inr, ap, ◌∙◌, arith, ◌+◌}
use Rattle.std.proofs.Math.Seq.{get_or-append_seam}
use Rattle.std.proofs.lemmas.Bool.{cases_lt}
use Rattle.std.proofs.lemmas.List.{get_or_append_left, length_push}
use Rattle.tc_judge.specs.declared.account.Rules.{Rules}
use Rattle.tc_judge.specs.declared.account.SentFrame.{SentFrame}
use Rattle.tc_link.specs.declared.farm.Report.{Report}
use Rattle.tc_judge.specs.Account.{Explains}
use Rattle.tc_judge.specs.declared.account.Item.{Item}
use Rattle.tc_judge.specs.declared.account.Item.TheVariants.{Heard}
use Rattle.tc_judge.specs.Layer.{Has, SomeAt, SomeOf, IsTurn, IsEmpty}

drop-suc : {X : Type 0} (xs : List X) (i : ℕ) → drop 1 (drop i xs) ≡ drop (suc i) xs
drop-suc [] zero = refl
drop-suc [] (suc i) = refl
drop-suc (x ∷ xs) zero = refl
drop-suc (x ∷ xs) (suc i) = drop-suc xs i

drop-one : {X : Type 0} (xs : List X) (i : ℕ) → drop 1 (drop i xs) ≡ drop (i + 1) xs
drop-one xs i = let e : suc i ≡ i + 1 = omega arith in drop-suc xs i ∙ ap (λ n. drop n xs) e

pub get-drop : {X : Type 0} (xs : List X) (i : ℕ) → slice_get (drop i xs) 0 ≡ slice_get xs i
get-drop [] zero = refl
get-drop [] (suc i) = refl
get-drop (x ∷ xs) zero = refl
get-drop (x ∷ xs) (suc i) = get-drop xs i

abbrev pub SomeAfter : (List SentFrame → Type 0) → ℕ → List Bool → List SentFrame → Type 0
SomeAfter Holds i at way = (k : ℕ) × (i ≤ k) × (k < length at) × IsTrue (slice_index_or at k false) × Holds (drop k way)

-- `Found` is the case that the unit makes the next CLCW before place i. The other cases are that it follows from
-- components of the layer at place i, or from `now` at a place from i on.
abbrev pub IsSoFar : Rules → Report → Report → List SentFrame → List Bool → ℕ → Type 0 → List Bool → List Item → Type 0
IsSoFar rules now q way at i Found layer items =
    (Found ⊎ SomeOf (λ r. Explains rules (drop i way) r (Heard q ∷ items)) layer)
    ⊎ SomeAfter (λ s. Explains rules s now (Heard q ∷ items)) i at way

pub pushed : (Holds : List SentFrame → Type 0) (out : List Bool) (is : Bool) (i : ℕ) (way : List SentFrame) → length out ≡ i
    → SomeAt Holds (out ++ is ∷ []) way ↔ (SomeAt Holds out way ⊎ (IsTrue is × Holds (drop i way)))
pushed Holds out is i way e = (there, back) where
  there : SomeAt Holds (out ++ is ∷ []) way → SomeAt Holds out way ⊎ (IsTrue is × Holds (drop i way))
  there s = by (cases_lt s.0 (length out)) where
    by : (s.0 < length out) ⊎ (length out ≤ s.0) → SomeAt Holds out way ⊎ (IsTrue is × Holds (drop i way))
    by (inl lt) = inl (s.0, lt, subst (λ b. IsTrue b) (get_or_append_left out (is ∷ []) false s.0 lt) s.2, s.3)
    by (inr ge) =
        let n : length (out ++ is ∷ []) ≡ length out + 1 = length_push out is in
        let at : s.0 ≡ length out = omega (arith, s.1, n, ge) in
        inr (
          subst (λ b. IsTrue b) (get_or-append_seam out is [] false) (subst (λ k. IsTrue (slice_index_or (out ++ is ∷ []) k false)) at s.2),
          subst (λ k. Holds (drop k way)) (at ∙ e) s.3,
        )

  back : SomeAt Holds out way ⊎ (IsTrue is × Holds (drop i way)) → SomeAt Holds (out ++ is ∷ []) way
  back (inl s) =
      let n : length (out ++ is ∷ []) ≡ length out + 1 = length_push out is in
      (s.0, omega (arith, n, s.1), subst (λ b. IsTrue b) (sym (get_or_append_left out (is ∷ []) false s.0 s.1)) s.2, s.3)
  back (inr s) =
      let n : length (out ++ is ∷ []) ≡ length out + 1 = length_push out is in
      (length out, omega (arith, n), subst (λ b. IsTrue b) (sym (get_or-append_seam out is [] false)) s.0, subst (λ k. Holds (drop k way)) (sym e) s.1)

one-after : (Holds : List SentFrame → Type 0) (i : ℕ) (at : List Bool) (way : List SentFrame) → i < length at
    → SomeAfter Holds i at way ↔ ((IsTrue (slice_index_or at i false) × Holds (drop i way)) ⊎ SomeAfter Holds (i + 1) at way)
one-after Holds i at way h = (there, back) where
  there : SomeAfter Holds i at way → (IsTrue (slice_index_or at i false) × Holds (drop i way)) ⊎ SomeAfter Holds (i + 1) at way
  there s = by (cases_lt i s.0) where
    by : (i < s.0) ⊎ (s.0 ≤ i) → (IsTrue (slice_index_or at i false) × Holds (drop i way)) ⊎ SomeAfter Holds (i + 1) at way
    by (inl lt) = inr (s.0, omega (arith, lt), s.2, s.3, s.4)
    by (inr ge) = let e : s.0 ≡ i = omega (arith, ge, s.1) in
        inl (subst (λ k. IsTrue (slice_index_or at k false)) e s.3, subst (λ k. Holds (drop k way)) e s.4)

  back : (IsTrue (slice_index_or at i false) × Holds (drop i way)) ⊎ SomeAfter Holds (i + 1) at way → SomeAfter Holds i at way
  back (inl s) = (i, omega arith, h, s.0, s.1)
  back (inr s) = (s.0, omega (arith, s.1), s.2, s.3, s.4)

regroup : {A B C D E F G H : Type 0} → (D ↔ (A ⊎ B)) → ((B ⊎ C) ↔ (E ⊎ F)) → (G ↔ (F ⊎ H)) → (((D ⊎ C) ⊎ H) → ((A ⊎ E) ⊎ G)) × (((A ⊎ E) ⊎ G) → ((D ⊎ C) ⊎ H))
regroup {A = A} {B = B} {C = C} {D = D} {E = E} {F = F} {G = G} {H = H} d t g = (there, back) where
  up : E ⊎ F → (A ⊎ E) ⊎ G
  up (inl e) = inl (inr e)
  up (inr f) = inr (g.1 (inl f))

  split : A ⊎ B → (A ⊎ E) ⊎ G
  split (inl a) = inl (inl a)
  split (inr b) = up (t.0 (inl b))

  there : (D ⊎ C) ⊎ H → (A ⊎ E) ⊎ G
  there (inl (inl x)) = split (d.0 x)
  there (inl (inr c)) = up (t.0 (inr c))
  there (inr h) = inr (g.1 (inr h))

  down : B ⊎ C → (D ⊎ C) ⊎ H
  down (inl b) = inl (inl (d.1 (inr b)))
  down (inr c) = inl (inr c)

  fall : F ⊎ H → (D ⊎ C) ⊎ H
  fall (inl f) = down (t.1 (inr f))
  fall (inr h) = inr h

  back : (A ⊎ E) ⊎ G → (D ⊎ C) ⊎ H
  back (inl (inl a)) = inl (inl (d.1 (inl a)))
  back (inl (inr e)) = down (t.1 (inl e))
  back (inr x) = fall (g.0 x)

pub turn-on : (rules : Rules) (now q : Report) (way : List SentFrame) (at : List Bool) (Found More : Type 0) (layer joined next : List Bool) (i : ℕ) (items : List Item)
    → i < length at → (More ↔ (Found ⊎ (Has joined q × Explains rules (drop i way) q items))) → IsTurn rules now q (slice_index_or at i false) layer joined next (drop i way) items
    → IsSoFar rules now q way at (i + 1) More next items ↔ IsSoFar rules now q way at i Found layer items
turn-on rules now q way at Found More layer joined next i items h more turn =
    regroup more
    (subst (λ ks. ((Has joined q × Explains rules (drop i way) q items) ⊎ SomeOf (λ y. Explains rules ks y (Heard q ∷ items)) next)
    ↔ (SomeOf (λ r. Explains rules (drop i way) r (Heard q ∷ items)) layer ⊎ (IsTrue (slice_index_or at i false) × Explains rules (drop i way) now (Heard q ∷ items))))
    (drop-one way i) turn)
    (one-after (λ s. Explains rules s now (Heard q ∷ items)) i at way h)

pub at-last : (rules : Rules) (now q : Report) (way : List SentFrame) (at : List Bool) (Found : Type 0) (layer : List Bool) (i : ℕ) (items : List Item) → IsEmpty layer → length at ≤ i
    → IsSoFar rules now q way at i Found layer items ↔ Found
at-last rules now q way at Found layer i items le h = (there, λ s. inl (inl s)) where
  there : IsSoFar rules now q way at i Found layer items → Found
  there (inl (inl s)) = s
  there (inl (inr s)) = absurd (le s.0 s.1)
  there (inr s) = absurd (omega (arith, h, s.1, s.2))

pub through : {A B C : Type 0} → (A ↔ B) → (B ↔ C) → A ↔ C
through f g = ((λ a. g.0 (f.0 a)), (λ c. f.1 (g.1 c)))

pub turned-round : {A B : Type 0} → (A ↔ B) → B ↔ A
turned-round f = (f.1, f.0)
