-- Frames that were dealt with for certain.
use Rattle.std.specs.Prelude.{◌≡◌, ℕ, zero, suc, ◌<◌, ◌↔◌, Bool, true, false, IsTrue, List, [], ◌∷◌, drop, length, slice_index_or, remove}
use Rattle.std.proofs.Common.{arith, subst, sym}
use Rattle.tc_judge.specs.declared.account.SentFrame.{SentFrame}
use Rattle.tc_judge.specs.Layer.{SomeAt}

trimmed : (Holds : List SentFrame → Type 0) (b : Bool) (bs : List Bool) (k : SentFrame) (ks : List SentFrame) → b ≡ false → SomeAt Holds bs ks ↔ SomeAt Holds (b ∷ bs) (k ∷ ks)
trimmed Holds b bs k ks off = ((λ s. (suc s.0, omega (arith, s.1), s.2, s.3)), (λ s. back s.0 s.1 s.2 s.3)) where
  back : (i : ℕ) → i < length (b ∷ bs) → IsTrue (slice_index_or (b ∷ bs) i false) → Holds (drop i (k ∷ ks)) → SomeAt Holds bs ks
  back zero h t x = let q : b ≡ true = t in absurd (cc (q, off))
  back (suc i) h t x = (i, omega (arith, h), t, x)

pub trim-one : (Holds : List SentFrame → Type 0) (at : List Bool) (way : List SentFrame) → 0 < length way → 0 < length at → slice_index_or at 0 false ≡ false
    → SomeAt Holds (remove at 0) (remove way 0) ↔ SomeAt Holds at way
trim-one Holds (b ∷ bs) (k ∷ ks) h m off = trimmed Holds b bs k ks off
trim-one Holds [] way h m off = absurd (omega (arith, m))
trim-one Holds at [] h m off = absurd (omega (arith, h))

pub trim-on : (Holds : List SentFrame → Type 0) (at a : List Bool) (way w : List SentFrame) → 0 < length way → 0 < length at → slice_index_or at 0 false ≡ false
    → a ≡ remove at 0 → w ≡ remove way 0 → SomeAt Holds a w ↔ SomeAt Holds at way
trim-on Holds at a way w h m off ae we =
    subst (λ x. SomeAt Holds x w ↔ SomeAt Holds at way) (sym ae) (subst (λ x. SomeAt Holds (remove at 0) x ↔ SomeAt Holds at way) (sym we) (trim-one Holds at way h m off))
