-- The events of a journal at the places that the actions of a course leave to other threads.
use Rattle.tc_apart.proofs.Names.{AllByRecursion, all-append, get-append, slice_get_within, List, Some, [], ap, arith, eqb_tells, inl, inr, length, refl, slice_get, subst, suc, zero, ℕ, ◌++◌, ◌+◌, ◌<◌, ◌∙◌, ◌∷◌, ◌≡◌, ◌≢◌, ◌≤◌, Event, IsOther, events_at, owned, owned-own, owned-other, with_places}
use Rattle.tc_apart.proofs.Woven.{Block, flow, AreOther, AreFilled}

-- all these events and their places have a property
abbrev pub AreSo : (ℕ → Event → Type 0) → List (ℕ × Event) → Type 0
AreSo P made = AllByRecursion (λ (p : ℕ × Event). P p.0 p.1) made

pub weaker : {X : Type 0} (P Q : X → Type 0) (xs : List X) → AllByRecursion P xs → ((x : X) → P x → Q x) → AllByRecursion Q xs
weaker P Q [] all so = tt
weaker P Q (x ∷ xs) all so = (so x all.0, weaker P Q xs all.1 so)

-- if the places of each owner have a property, each place of the journal has it
pub each-place : (P : ℕ → Event → Type 0) (at : ℕ) (os : List ℕ) (es : List Event) → length os ≡ length es → ((j : ℕ) → AreSo P (owned j at os es))
    → (x : ℕ) (e : Event) → slice_get es x ≡ Some e → P (at + x) e
each-place P at [] [] long all x e here = absurd cc
each-place P at (o ∷ os) (f ∷ es) long all zero e here =
    let q : f ≡ e = cc in
    let is : at ≡ at + 0 = omega arith in
    let own = subst (AreSo P) (owned-own o at o os f es refl) (all o) in
    subst (λ (n : ℕ). P n e) is (subst (P at) q own.0)
each-place P at (o ∷ os) (f ∷ es) long all (suc x) e here =
    let is : suc at + x ≡ at + suc x = omega arith in
    let rest : (j : ℕ) → AreSo P (owned j (suc at) os es) = λ j. elim (eqb_tells o j) [
      | inl own ↦ (subst (AreSo P) (owned-own j at o os f es own.1) (all j)).1
      | inr other ↦ subst (AreSo P) (owned-other j at o os f es other.1) (all j)
    ] in
    subst (λ (n : ℕ). P n e) is (each-place P (suc at) os es (omega arith) rest x e here)
each-place P at _ _ long all x e here = absurd (omega arith)

-- the place is none of these
abbrev pub IsNoneOf : ℕ → List (ℕ × Event) → Type 0
IsNoneOf n made = AllByRecursion (λ (p : ℕ × Event). p.0 ≢ n) made

-- a property that holds for each place that is none of these, holds for each of these without proof
pub none-of-itself : (P : Event → Type 0) (xs : List (ℕ × Event)) → AreSo (λ n e. IsNoneOf n xs → P e) xs
none-of-itself P [] = tt
none-of-itself P (x ∷ xs) =
    (λ none. absurd (none.0 refl), weaker (λ (p : ℕ × Event). IsNoneOf p.0 xs → P p.1) (λ (p : ℕ × Event). IsNoneOf p.0 (x ∷ xs) → P p.1) xs (none-of-itself P xs) (λ p so none. so none.1))

-- the events of the blocks' own actions with their places, if the journal has n events before the blocks
abbrev pub placed : (ℕ → List ℕ) → ℕ → List Block → List (ℕ × Event)
placed frames n [] = []
placed frames n (b ∷ bs) =
    with_places (n + length b.others) (events_at frames b.action) ++ placed frames (n + length b.others + length (events_at frames b.action)) bs

with-places-least : (n at : ℕ) (es : List Event) → n ≤ at → AreSo (λ m e. n ≤ m) (with_places at es)
with-places-least n at [] low = tt
with-places-least n at (e ∷ es) low = (low, with-places-least n (suc at) es (omega arith))

with-places-most : (at : ℕ) (es : List Event) (n : ℕ) → at + length es ≤ n → IsNoneOf n (with_places at es)
with-places-most at [] n high = tt
with-places-most at (e ∷ es) n high = (λ same. absurd (omega (arith, same)), with-places-most (suc at) es n (omega arith))

placed-least : (frames : ℕ → List ℕ) (n : ℕ) (bs : List Block) (k : ℕ) → k ≤ n → AreSo (λ m e. k ≤ m) (placed frames n bs)
placed-least frames n [] k low = tt
placed-least frames n (b ∷ bs) k low =
    all-append (λ (p : ℕ × Event). k ≤ p.0) (with_places (n + length b.others) (events_at frames b.action)) (placed frames (n + length b.others + length (events_at frames b.action)) bs)
    (with-places-least k (n + length b.others) (events_at frames b.action) (omega arith))
    (placed-least frames (n + length b.others + length (events_at frames b.action)) bs k (omega arith))

none-below : (made : List (ℕ × Event)) (n k : ℕ) → AreSo (λ m e. k ≤ m) made → n < k → IsNoneOf n made
none-below made n k all less = weaker (λ (p : ℕ × Event). k ≤ p.0) (λ (p : ℕ × Event). p.0 ≢ n) made all (λ p low same. absurd (omega (arith, same)))

pub none-placed-below : (frames : ℕ → List ℕ) (n : ℕ) (bs : List Block) (k : ℕ) → k < n → IsNoneOf k (placed frames n bs)
none-placed-below frames n bs k less = none-below (placed frames n bs) k n (placed-least frames n bs n (omega arith)) less

pub get-right : {A : Type 0} (xs ys : List A) (i : ℕ) → slice_get (xs ++ ys) (length xs + i) ≡ slice_get ys i
get-right [] ys i = let same : 0 + i ≡ i = omega arith in ap (slice_get ys) same
get-right (x ∷ xs) ys i =
    let same : length (x ∷ xs) + i ≡ suc (length xs + i) = omega arith in
    ap (slice_get (x ∷ (xs ++ ys))) same ∙ get-right xs ys i

-- Each event behind the first n events of a journal is no Type-AD frame, unless its place is one of the blocks' own.
abbrev pub AreOtherBeside : (ℕ → List ℕ) → ℕ → List Event → List Block → Type 0
AreOtherBeside frames n tail bs = (x : ℕ) (e : Event) → slice_get (flow frames tail bs) x ≡ Some e → IsNoneOf (n + x) (placed frames n bs) → IsOther e

next-beside : (frames : ℕ → List ℕ) (n : ℕ) (tail : List Event) (b : Block) (bs : List Block) → AreOtherBeside frames n tail (b ∷ bs)
    → AreOtherBeside frames (n + length b.others + length (events_at frames b.action)) tail bs
next-beside frames n tail b bs all x e here none =
    let own = events_at frames b.action in
    let rest = flow frames tail bs in
    let y = length b.others + (length own + x) in
    let is : n + length b.others + length own + x ≡ n + y = omega arith in
    let there : slice_get (b.others ++ (own ++ rest)) y ≡ Some e = get-right b.others (own ++ rest) (length own + x) ∙ (get-right own rest x ∙ here) in
    let apart = all-append (λ (p : ℕ × Event). p.0 ≢ n + y) (with_places (n + length b.others) own) (placed frames (n + length b.others + length own) bs)
    (with-places-most (n + length b.others) own (n + y) (omega arith))
    (subst (λ (k : ℕ). IsNoneOf k (placed frames (n + length b.others + length own) bs)) is none) in
    all y e there apart

-- so the events between the blocks' own, and those behind them, are no Type-AD frames
pub beside-other : (frames : ℕ → List ℕ) (n : ℕ) (tail : List Event) (bs : List Block) → AreOtherBeside frames n tail bs → AreFilled bs × AreOther tail
beside-other frames n tail [] all = (tt, λ i e here. all i e here tt)
beside-other frames n tail (b ∷ bs) all =
    let own = events_at frames b.action in
    let more = beside-other frames (n + length b.others + length own) tail bs (next-beside frames n tail b bs all) in
    let least = all-append (λ (p : ℕ × Event). n + length b.others ≤ p.0) (with_places (n + length b.others) own) (placed frames (n + length b.others + length own) bs)
    (with-places-least (n + length b.others) (n + length b.others) own (omega arith))
    (placed-least frames (n + length b.others + length own) bs (n + length b.others) (omega arith)) in
    let first : AreOther b.others = λ i e here.
    let low = slice_get_within b.others i e here in
    all i e (get-append b.others (own ++ flow frames tail bs) i e here) (none-below (placed frames n (b ∷ bs)) (n + i) (n + length b.others) least (omega arith)) in
    ((first, more.0), more.1)
