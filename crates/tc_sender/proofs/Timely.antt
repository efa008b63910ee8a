-- Frames that a history explains come in their time.
use Rattle.std.specs.Prelude.{◌≡◌, ℕ, ◌+◌, ◌%◌, ◌<◌, ◌≤◌, Bool, true, false, List, [], ◌∷◌, ◌++◌}
use Rattle.std.proofs.Common.{sym, refl, ap, ◌∙◌, arith}
use Rattle.tc_sender.specs.Account.{distance, next_after, vr_after, Seen, Arrived, Made, Set, SenderExplains, ended, arrived, made, lost, read, set, counted, InTime}
use Rattle.tc_sender.proofs.Sending.{reads}

-- numbers of frames that don't fall
abbrev Rising : ℕ → List ℕ → ℕ → Type 0
Rising a [] c = a ≤ c
Rising a (e ∷ es) c = (a ≤ e) × Rising e es c

-- the N(S) of these frames
abbrev numbers-of : ℕ → List ℕ → List ℕ
numbers-of first [] = []
numbers-of first (e ∷ es) = (first + e) % 256 ∷ numbers-of first es

rising-ends : (a c : ℕ) (es : List ℕ) → Rising a es c → a ≤ c
rising-ends a c [] r = r
rising-ends a c (e ∷ es) r = omega (arith, r.0, rising-ends e c es r.1)

rising-below : (b a c : ℕ) (es : List ℕ) → b ≤ a → Rising a es c → Rising b es c
rising-below b a c [] h r = omega (arith, h, r)
rising-below b a c (e ∷ es) h r = (omega (arith, h, r.0), r.1)

rising-more : (a c : ℕ) (es : List ℕ) → Rising a es c → Rising a es (c + 1)
rising-more a c [] r = omega (arith, r)
rising-more a c (e ∷ es) r = (r.0, rising-more e c es r.1)

rising-last : (a c : ℕ) (es : List ℕ) → Rising a es c → Rising a (es ++ c ∷ []) c
rising-last a c [] r = (r, omega arith)
rising-last a c (e ∷ es) r = (r.0, rising-last e c es r.1)

numbers-last : (first c vr : ℕ) (es way : List ℕ) → way ≡ numbers-of first es → vr ≡ (first + c) % 256 → way ++ vr ∷ [] ≡ numbers-of first (es ++ c ∷ [])
numbers-last first c vr [] [] e v = cc
numbers-last first c vr [] (w ∷ way) e v = absurd cc
numbers-last first c vr (d ∷ es) [] e v = absurd cc
numbers-last first c vr (d ∷ es) (w ∷ way) e v = let tail : way ++ vr ∷ [] ≡ numbers-of first (es ++ c ∷ []) = numbers-last first c vr es way (cc) v in cc

frame-of : (first a next ns : ℕ) → next ≡ (first + a) % 256 → ns < 256 → ns ≡ (first + (a + distance next ns)) % 256
frame-of first a next ns n small = omega arith

frame-at : (first a e next r : ℕ) → next ≡ (first + a) % 256 → r ≡ (first + e) % 256 → a ≤ e → e < a + 256 → distance next r + a ≡ e
frame-at first a e next r n s le lt = omega arith

one-more : (first c vr : ℕ) → vr ≡ (first + c) % 256 → (vr + 1) % 256 ≡ (first + (c + 1)) % 256
one-more first c vr v = omega arith

pub in-time : (window first a c next vr : ℕ) (es way : List ℕ) (items : List Seen) → window ≤ 127 → next ≡ (first + a) % 256 → vr ≡ (first + c) % 256
    → way ≡ numbers-of first es → Rising a es c → c ≤ a + window → SenderExplains window next way vr items → InTime first c items
in-time window first a c next vr es way [] small n v w r h ended = tt
in-time window first a c next vr es way (Arrived ns true field ∷ items) small n v w r h (arrived fits within is d) =
    let le : a ≤ c = rising-ends a c es r in
    let same : ns ≡ vr = is refl in
    let at : distance next ns + a ≡ c = frame-at first a c next ns n (same ∙ v) le (omega (arith, h, small)) in
    let more : c + 1 ≤ a + window = omega (arith, at, within) in (
      ((a + distance next ns), frame-of first a next ns n fits, omega (arith, at), omega (arith, at), λ t. omega (arith, at)),
      in-time window first a (c + 1) next ((vr + 1) % 256) es way items small n (one-more first c vr v) w (rising-more a c es r) more d,
    )
in-time window first a c next vr es way (Arrived ns false field ∷ items) small n v w r h (arrived fits within is d) =
    let le : a ≤ c = rising-ends a c es r in (
      ((a + distance next ns), frame-of first a next ns n fits, omega (arith, h, small), omega (arith, le, within, small), λ t. absurd cc),
      in-time window first a c next vr es way items small n v w r h d,
    )
in-time window first a c next vr es way (Made q ∷ items) small n v w r h (made d) =
    (v, in-time window first a c next vr (es ++ c ∷ []) (way ++ vr ∷ []) items small n v (numbers-last first c vr es way w v) (rising-last a c es r) h d)
in-time window first a c next vr [] (q ∷ way) items small n v w r h (lost d) = absurd cc
in-time window first a c next vr (e ∷ es) (q ∷ way) items small n v w r h (lost d) =
    in-time window first a c next vr es way items small n v (cc) (rising-below a e c es r.0 r.1) h d
in-time window first a c next vr [] (q ∷ way) items small n v w r h (read d) = absurd cc
in-time window first a c next vr (e ∷ es) (q ∷ way) items small n v w r h (read d) =
    let is : q ≡ (first + e) % 256 = cc in
    let le : e ≤ c = rising-ends e c es r.1 in
    let at : distance next q + a ≡ e = frame-at first a e next q n is r.0 (omega (arith, le, h, small)) in
    let next_small : next < 256 = omega (arith, n) in
    let q_small : q < 256 = omega (arith, is) in
    let to : next_after window next q ≡ q = reads window next q next_small q_small (omega (arith, at, le, h)) in
    in-time window first e c (next_after window next q) vr es way items small (to ∙ is) v (cc) r.1 (omega (arith, h, r.0)) d
in-time window first a c next vr es way (Set q ∷ items) small n v w r h (set fits d) =
    let at : q ≡ (q + 0) % 256 = omega (arith, fits) in
    in-time window q 0 0 q q [] [] items small at at refl (omega arith) (omega arith) d
