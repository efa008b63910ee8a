-- Histories of a sender, as a judge follows them.
use Rattle.std.specs.Prelude.{◌≡◌, ◌≢◌, ◌⊎◌, ℕ, zero, suc, ◌+◌, ◌%◌, ◌<◌, ◌≤◌, ◌↔◌, Bool, true, false, List, [], ◌∷◌, ◌++◌, drop, length, slice_index_or}
use Rattle.std.proofs.Common.{subst, sym, refl, ap, ◌∙◌, arith, inl, inr, append_assoc, append-nil}
use Rattle.std.proofs.lemmas.Bool.{cases_lt}
use Rattle.std.proofs.lemmas.Bool.Decides.{nat_tests}
use Rattle.tc_sender.specs.Account.{distance, next_after, vr_after, Seen, Arrived, Made, Set, SenderExplains, ended, arrived, made, lost, read, set, ExplainsFrom, Approach, IsKnown, IsWithin}

-- a report value within the window is read as it is
pub reads : (window next report : ℕ) → next < 256 → report < 256 → distance next report ≤ window → next_after window next report ≡ report
reads window next report n r h = grind (arith, nat_tests)

-- distances add up
pub adds : (x y z : ℕ) → x < 256 → y < 256 → z < 256 → distance x y + distance y z < 256 → distance x z ≡ distance x y + distance y z
adds x y z a b c h = omega arith

-- without the first report value, the others still approach V(R)
pub skip : (next report vr : ℕ) (way : List ℕ) → next < 256 → vr < 256 → Approach next (report ∷ way) vr → Approach next way vr
skip next report vr [] n v a = tt
skip next report vr (y ∷ ys) n v a =
    let b : Approach report (y ∷ ys) vr = a.3 in
    let small : distance next vr < 256 = omega arith in
    let less : distance next report + distance report y < 256 = omega (arith, a.2, b.2, small) in
    let xy : distance next y ≡ distance next report + distance report y = adds next report y n a.0 b.0 less in
    (b.0, omega (arith, xy, a.1), omega (arith, xy, a.2, b.2), b.3)

-- the first report value is within the window
pub readable : (window next report vr : ℕ) (way : List ℕ) → IsKnown window (next ∷ report ∷ way) vr → next_after window next report ≡ report
readable window next report vr way k = reads window next report k.0 k.3.0 (omega (arith, k.2, k.3.2))

pub rest-known : (window next report vr : ℕ) (way : List ℕ) → IsKnown window (next ∷ report ∷ way) vr → IsKnown window (report ∷ way) vr
rest-known window next report vr way k = (k.3.0, k.1, omega (arith, k.2, k.3.2), k.3.3)

pub skip-known : (window next report vr : ℕ) (way : List ℕ) → IsKnown window (next ∷ report ∷ way) vr → IsKnown window (next ∷ way) vr
skip-known window next report vr way k = (k.0, k.1, k.2, skip next report vr way k.0 k.1 k.3)

-- numbers that a judge can know, without those in front of a place
pub dropped-known : (window vr p : ℕ) (numbers : List ℕ) → p < length numbers → IsKnown window numbers vr → IsKnown window (drop p numbers) vr
dropped-known window vr zero numbers h k = k
dropped-known window vr (suc p) [] h k = absurd k
dropped-known window vr (suc p) (x ∷ []) h k = absurd (omega (arith, h))
dropped-known window vr (suc p) (x ∷ y ∷ ys) h k = dropped-known window vr p (y ∷ ys) (omega (arith, h)) (rest-known window x y vr ys k)

-- a history from a later number on is one from the first number on
pub from-later : (window vr v p : ℕ) (numbers : List ℕ) (items : List Seen) → IsKnown window numbers v → p < length numbers
    → ExplainsFrom window (drop p numbers) vr items → ExplainsFrom window numbers vr items
from-later window vr v zero numbers items k h e = e
from-later window vr v (suc p) [] items k h e = absurd k
from-later window vr v (suc p) (x ∷ []) items k h e = absurd (omega (arith, h))
from-later window vr v (suc p) (x ∷ y ∷ ys) items k h e =
    read (subst (λ n. SenderExplains window n ys vr items) (sym (readable window x y v ys k))
    (from-later window vr v p (y ∷ ys) items (rest-known window x y v ys k) (omega (arith, h)) e))

pub from-later-at : (window vr v p q : ℕ) (numbers : List ℕ) (items : List Seen) → IsKnown window numbers v → p ≤ q → q < length numbers
    → ExplainsFrom window (drop q numbers) vr items → ExplainsFrom window (drop p numbers) vr items
from-later-at window vr v zero q numbers items k le h e = from-later window vr v q numbers items k h e
from-later-at window vr v (suc p) zero numbers items k le h e = absurd (omega (arith, le))
from-later-at window vr v (suc p) (suc q) [] items k le h e = absurd k
from-later-at window vr v (suc p) (suc q) (x ∷ []) items k le h e = absurd (omega (arith, h))
from-later-at window vr v (suc p) (suc q) (x ∷ y ∷ ys) items k le h e =
    from-later-at window vr v p q (y ∷ ys) items (rest-known window x y v ys k) (omega (arith, le)) (omega (arith, h)) e

-- what a history says of a frame that arrives next: from the number at some place on, it is within the window
pub record Sent (window vr ns : ℕ) (accepted : Bool) (numbers : List ℕ) (items : List Seen) : Type 0 where
  pub place : ℕ
  pub below : place < length numbers
  pub within : IsWithin window (slice_index_or numbers place 0) ns
  pub fits : accepted ≡ true → ns ≡ vr
  pub onward : ExplainsFrom window (drop place numbers) (vr_after accepted vr) items

pub arrives : (window v vr ns n x : ℕ) (accepted : Bool) (field : List ℕ) (way ys : List ℕ) (items : List Seen)
    → n ≡ x → way ≡ ys → IsKnown window (x ∷ ys) v → SenderExplains window n way vr (Arrived ns accepted field ∷ items) → Sent window vr ns accepted (x ∷ ys) items
arrives window v vr ns n x accepted field way ys items ne we k (arrived small within fits e) = record {
  place = 0;
  below = omega arith;
  within = subst (λ m. IsWithin window m ns) ne within;
  fits = fits;
  onward = subst (λ m. SenderExplains window m ys (vr_after accepted vr) items) ne (subst (λ w. SenderExplains window n w (vr_after accepted vr) items) we e);
}
arrives window v vr ns n x accepted field (r ∷ way) [] items ne we k (lost e) = absurd cc
arrives window v vr ns n x accepted field (r ∷ way) (y ∷ ys) items ne we k (lost e) =
    later (arrives window v vr ns n x accepted field way ys items ne (cc) (skip-known window x y v ys k) e) where
      at : (place : ℕ) → place < length (x ∷ ys) → IsWithin window (slice_index_or (x ∷ ys) place 0) ns → (accepted ≡ true → ns ≡ vr)
          → ExplainsFrom window (drop place (x ∷ ys)) (vr_after accepted vr) items → Sent window vr ns accepted (x ∷ y ∷ ys) items
      at zero h w f o = record { place = 0; below = omega arith; within = w; fits = f; onward = lost o }
      at (suc place) h w f o = record { place = suc (suc place); below = omega (arith, h); within = w; fits = f; onward = o }

      later : Sent window vr ns accepted (x ∷ ys) items → Sent window vr ns accepted (x ∷ y ∷ ys) items
      later s = at s.place s.below s.within s.fits s.onward
arrives window v vr ns n x accepted field (r ∷ way) [] items ne we k (read e) = absurd cc
arrives window v vr ns n x accepted field (r ∷ way) (y ∷ ys) items ne we k (read e) =
    let same : next_after window n r ≡ next_after window x y = cc in
    let is : next_after window n r ≡ y = same ∙ readable window x y v ys k in
    later (arrives window v vr ns (next_after window n r) y accepted field way ys items is (cc) (rest-known window x y v ys k) e) where
      later : Sent window vr ns accepted (y ∷ ys) items → Sent window vr ns accepted (x ∷ y ∷ ys) items
      later s = record { place = suc s.place; below = omega (arith, s.below); within = s.within; fits = s.fits; onward = s.onward }

-- a frame that arrives is explained from the first place on at which it is within the window
pub first-place : (window v vr ns p : ℕ) (accepted : Bool) (field : List ℕ) (numbers : List ℕ) (items : List Seen) → IsKnown window numbers v
    → p < length numbers → IsWithin window (slice_index_or numbers p 0) ns → ((k : ℕ) → k < p → IsWithin window (slice_index_or numbers k 0) ns → ⊥)
    → (accepted ≡ true → ns ≡ vr) → ns < 256
    → ExplainsFrom window (drop p numbers) (vr_after accepted vr) items ↔ ExplainsFrom window numbers vr (Arrived ns accepted field ∷ items)
first-place window v vr ns p accepted field [] items k h w none fits small = absurd k
first-place window v vr ns p accepted field (x ∷ ys) items k h w none fits small = (there, back) where
  at : (numbers : List ℕ) (q : ℕ) → q < length numbers → IsWithin window (slice_index_or numbers q 0) ns
      → ExplainsFrom window (drop q numbers) (vr_after accepted vr) items → ExplainsFrom window (drop q numbers) vr (Arrived ns accepted field ∷ items)
  at [] q h w e = absurd (omega (arith, h))
  at (z ∷ zs) zero h w e = arrived small w fits e
  at (z ∷ zs) (suc q) h w e = at zs q (omega (arith, h)) w e

  there : ExplainsFrom window (drop p (x ∷ ys)) (vr_after accepted vr) items → SenderExplains window x ys vr (Arrived ns accepted field ∷ items)
  there e = from-later window vr v p (x ∷ ys) (Arrived ns accepted field ∷ items) k h (at (x ∷ ys) p h w e)

  back : SenderExplains window x ys vr (Arrived ns accepted field ∷ items) → ExplainsFrom window (drop p (x ∷ ys)) (vr_after accepted vr) items
  back e = by (arrives window v vr ns x x accepted field ys ys items refl refl k e) where
    by : Sent window vr ns accepted (x ∷ ys) items → ExplainsFrom window (drop p (x ∷ ys)) (vr_after accepted vr) items
    by s = elim (cases_lt s.place p) [ inl lt ↦ absurd (none s.place lt s.within) | inr ge ↦ from-later-at window (vr_after accepted vr) v p s.place (x ∷ ys) items k ge s.below s.onward ]

-- if the frame is within the window from no number on, no history explains it
pub no-place : (window v vr ns : ℕ) (accepted : Bool) (field : List ℕ) (numbers : List ℕ) (items : List Seen) → IsKnown window numbers v
    → ((k : ℕ) → k < length numbers → IsWithin window (slice_index_or numbers k 0) ns → ⊥)
    → ExplainsFrom window numbers vr (Arrived ns accepted field ∷ items) → ⊥
no-place window v vr ns accepted field [] items k none e = e
no-place window v vr ns accepted field (x ∷ ys) items k none e = by (arrives window v vr ns x x accepted field ys ys items refl refl k e) where
  by : Sent window vr ns accepted (x ∷ ys) items → ⊥
  by s = none s.place s.below s.within

-- no history explains that another frame than that with the number V(R) is accepted
pub not-expected : (window v vr ns : ℕ) (accepted : Bool) (field : List ℕ) (numbers : List ℕ) (items : List Seen) → IsKnown window numbers v
    → accepted ≡ true → ns ≢ vr → ExplainsFrom window numbers vr (Arrived ns accepted field ∷ items) → ⊥
not-expected window v vr ns accepted field [] items k a ne e = e
not-expected window v vr ns accepted field (x ∷ ys) items k a ne e = by (arrives window v vr ns x x accepted field ys ys items refl refl k e) where
  by : Sent window vr ns accepted (x ∷ ys) items → ⊥
  by s = ne (s.fits a)
