-- A session that is woven of the actions of a course and of the events that other threads make between them.
use Rattle.tc_apart.proofs.Names.{AllByRecursion, List, Some, [], ap, append-nil, arith, inl, inr, length, map, refl, slice_get, subst, suc, sym, take, zero, ℕ, ◌++◌, ◌+◌, ◌<◌, ◌∙◌, ◌∷◌, ◌≡◌, ◌≤◌, ◌⊎◌, Event, Loop, Action, Send, Arrive, Hear, Other, Idle, IsOther, events, events_at, moved, ◌-◌}

-- the events that other threads made before an action of a course, and this action
pub record Block : Type 0 where
  pub others : List Event
  pub action : Action

abbrev pub action_in : Block → Action
action_in b = b.action

-- the events of these blocks, with `tail` behind them
abbrev pub flow : (ℕ → List ℕ) → List Event → List Block → List Event
flow frames tail [] = tail
flow frames tail (b ∷ bs) = b.others ++ (events_at frames b.action ++ flow frames tail bs)

-- events of other threads as actions, with `later` behind them
abbrev pub beside : List Event → List Action → List Action
beside [] later = later
beside (e ∷ es) later = Other e ∷ beside es later

-- the actions of these blocks and the events before and between them, with `tail` behind them
abbrev pub woven : (ℕ → ℕ) → List Event → List Block → List Action
woven at tail [] = beside tail []
woven at tail (b ∷ bs) = beside b.others (moved at b.action ∷ woven at tail bs)

-- the moment of the woven session for a moment of the blocks, of which the first begins at moment n
abbrev pub moment : ℕ → List Block → ℕ → ℕ
moment n bs zero = n
moment n [] (suc m) = n
moment n (b ∷ bs) (suc m) = moment (suc (n + length b.others)) bs m

-- ---- the order of the moments

pub moment-least : (n : ℕ) (bs : List Block) (m : ℕ) → n ≤ moment n bs m
moment-least n bs zero = omega arith
moment-least n [] (suc m) = omega arith
moment-least n (b ∷ bs) (suc m) = let more = moment-least (suc (n + length b.others)) bs m in omega arith

pub moment-order : (n : ℕ) (bs : List Block) (m k : ℕ) → m < k → k ≤ length bs → moment n bs m < moment n bs k
moment-order n [] m (suc k) less most = absurd (omega arith)
moment-order n (b ∷ bs) zero (suc k) less most = let more = moment-least (suc (n + length b.others)) bs k in omega arith
moment-order n (b ∷ bs) (suc m) (suc k) less most = moment-order (suc (n + length b.others)) bs m k (omega arith) (omega arith)
moment-order n bs m zero less most = absurd (omega arith)

-- ---- the actions at the moments

-- all these events are no Type-AD frames
abbrev pub AreOther : List Event → Type 0
AreOther es = (i : ℕ) (e : Event) → slice_get es i ≡ Some e → IsOther e

abbrev pub AreFilled : List Block → Type 0
AreFilled bs = AllByRecursion (λ (b : Block). AreOther b.others) bs

abbrev pub IsBeside : Action → Type 0
IsBeside a = (e : Event) × (a ≡ Other e) × IsOther e

-- the action at moment y of a woven session is one of the blocks' actions
abbrev pub IsActionOf : ℕ → (ℕ → ℕ) → List Block → ℕ → Action → Type 0
IsActionOf n at bs y a = (t : ℕ) × (b : Action) × (slice_get (map action_in bs) t ≡ Some b) × (suc y ≡ moment n bs (suc t)) × (a ≡ moved at b)

pub get-beside : (es : List Event) (later : List Action) (x : ℕ) (a : Action) → AreOther es → slice_get (beside es later) x ≡ Some a
    → IsBeside a ⊎ ((y : ℕ) × (x ≡ length es + y) × (slice_get later y ≡ Some a))
get-beside [] later x a other here = inr (x, omega arith, here)
get-beside (e ∷ es) later zero a other here = let q : Other e ≡ a = cc in inl (e, sym q, other 0 e refl)
get-beside (e ∷ es) later (suc x) a other here = elim (get-beside es later x a (λ i f at. other (suc i) f at) here) [
  | inl aside ↦ inl aside
  | inr (y, is, there) ↦ inr (y, omega arith, there)
]

pub put-beside : (es : List Event) (later : List Action) (y : ℕ) → slice_get (beside es later) (length es + y) ≡ slice_get later y
put-beside [] later y = let same : 0 + y ≡ y = omega arith in ap (slice_get later) same
put-beside (e ∷ es) later y =
    let same : length (e ∷ es) + y ≡ suc (length es + y) = omega arith in
    ap (slice_get (beside (e ∷ es) later)) same ∙ put-beside es later y

found-behind : (n : ℕ) (at : ℕ → ℕ) (tail : List Event) (b : Block) (bs : List Block) (x y : ℕ) (a : Action) → x ≡ length b.others + y
    → ((z : ℕ) → slice_get (woven at tail bs) z ≡ Some a → IsBeside a ⊎ IsActionOf (suc (n + length b.others)) at bs (suc (n + length b.others) + z) a)
    → slice_get (moved at b.action ∷ woven at tail bs) y ≡ Some a → IsBeside a ⊎ IsActionOf n at (b ∷ bs) (n + x) a
found-behind n at tail b bs x zero a is later here = let q : moved at b.action ≡ a = cc in inr (0, b.action, refl, omega arith, sym q)
found-behind n at tail b bs x (suc z) a is later here = elim (later z here) [
  | inl aside ↦ inl aside
  | inr (t, c, get, when, same) ↦ inr (suc t, c, get, omega (arith, when), same)
]

-- each action of a woven session is an event of another thread, or an action of a block
pub found : (n : ℕ) (at : ℕ → ℕ) (tail : List Event) (bs : List Block) (x : ℕ) (a : Action) → AreFilled bs → AreOther tail → slice_get (woven at tail bs) x ≡ Some a
    → IsBeside a ⊎ IsActionOf n at bs (n + x) a
found n at tail [] x a filled other here = elim (get-beside tail [] x a other here) [
  | inl aside ↦ inl aside
  | inr (y, is, there) ↦ absurd cc
]
found n at tail (b ∷ bs) x a filled other here = elim (get-beside b.others (moved at b.action ∷ woven at tail bs) x a filled.0 here) [
  | inl aside ↦ inl aside
  | inr (y, is, there) ↦ found-behind n at tail b bs x y a is (λ z deeper. found (suc (n + length b.others)) at tail bs z a filled.1 other deeper) there
]

-- each action of a block stands at its moment in a woven session
pub put : (n : ℕ) (at : ℕ → ℕ) (tail : List Event) (bs : List Block) (t x : ℕ) (a : Action) → slice_get (map action_in bs) t ≡ Some a → suc (n + x) ≡ moment n bs (suc t)
    → slice_get (woven at tail bs) x ≡ Some (moved at a)
put n at tail [] t x a get when = absurd cc
put n at tail (b ∷ bs) zero x a get when =
    let q : b.action ≡ a = cc in
    let is : x ≡ length b.others + 0 = omega (arith, when) in
    ap (slice_get (woven at tail (b ∷ bs))) is ∙ put-beside b.others (moved at b.action ∷ woven at tail bs) 0 ∙ ap (λ (c : Action). Some (moved at c)) q
put n at tail (b ∷ c ∷ bs) (suc t) x a get when =
    let next = suc (n + length b.others) in
    let more = moment-least (suc (next + length c.others)) bs t in
    let y = x - suc (length b.others) in
    let is : x ≡ length b.others + suc y = omega (arith, when) in
    ap (slice_get (woven at tail (b ∷ c ∷ bs))) is ∙ put-beside b.others (moved at b.action ∷ woven at tail (c ∷ bs)) (suc y)
    ∙ put next at tail (c ∷ bs) t y a get (omega (arith, when))
put n at tail (b ∷ []) (suc t) x a get when = absurd cc

-- an action before which no other thread made an event
abbrev pub IsAtOnce : Action → Type 0
IsAtOnce (Send i) = Unit {0}
IsAtOnce (Hear m) = Unit {0}
IsAtOnce _ = ⊥

abbrev pub AreCalm : List Block → Type 0
AreCalm bs = AllByRecursion (λ (b : Block). IsAtOnce b.action → b.others ≡ []) bs

pub moment-calm : (n : ℕ) (bs : List Block) (t : ℕ) (a : Action) → AreCalm bs → slice_get (map action_in bs) t ≡ Some a → IsAtOnce a → moment n bs (suc t) ≡ suc (moment n bs t)
moment-calm n [] t a calm get once = absurd cc
moment-calm n (b ∷ bs) zero a calm get once =
    let q : b.action ≡ a = cc in
    let none : b.others ≡ [] = calm.0 (subst IsAtOnce (sym q) once) in
    let count : length b.others ≡ 0 = ap (λ (es : List Event). length es) none in
    omega arith
moment-calm n (b ∷ bs) (suc t) a calm get once = moment-calm (suc (n + length b.others)) bs t a calm.1 get once

-- ---- the events of a woven session

pub events-beside : (l : Loop) (es : List Event) (later : List Action) → events l (beside es later) ≡ es ++ events l later
events-beside l [] later = refl
events-beside l (e ∷ es) later = ap (λ (fs : List Event). e ∷ fs) (events-beside l es later)

events-moved : (frames : ℕ → List ℕ) (at : ℕ → ℕ) (a : Action) → events_at frames (moved at a) ≡ events_at frames a
events-moved frames at (Send i) = refl
events-moved frames at (Arrive i s) = refl
events-moved frames at (Hear m) = refl
events-moved frames at (Other e) = refl
events-moved frames at Idle = refl

pub events-woven : (l : Loop) (at : ℕ → ℕ) (tail : List Event) (bs : List Block) → events l (woven at tail bs) ≡ flow l.frames tail bs
events-woven l at tail [] = events-beside l tail [] ∙ append-nil tail
events-woven l at tail (b ∷ bs) =
    events-beside l b.others (moved at b.action ∷ woven at tail bs)
    ∙ ap (λ (es : List Event). b.others ++ es) (λ i. events-moved l.frames at b.action i ++ events-woven l at tail bs i)

pub take-beside : (es : List Event) (later : List Action) (k : ℕ) → take (length es + k) (beside es later) ≡ beside es (take k later)
take-beside [] later k = let same : 0 + k ≡ k = omega arith in ap (λ (n : ℕ). take n later) same
take-beside (e ∷ es) later k =
    let same : length (e ∷ es) + k ≡ suc (length es + k) = omega arith in
    ap (λ (n : ℕ). take n (beside (e ∷ es) later)) same ∙ ap (λ (xs : List Action). Other e ∷ xs) (take-beside es later k)

-- the part of a woven session before a moment is woven of the blocks before this moment
pub take-woven : (n : ℕ) (at : ℕ → ℕ) (tail : List Event) (bs : List Block) (m k : ℕ) → m ≤ length bs → n + k ≡ moment n bs m → take k (woven at tail bs) ≡ woven at [] (take m bs)
take-woven n at tail bs zero k most when =
    let none : k ≡ 0 = omega (arith, when) in
    ap (λ (i : ℕ). take i (woven at tail bs)) none
take-woven n at tail [] (suc m) k most when = absurd (omega arith)
take-woven n at tail (b ∷ bs) (suc m) k most when =
    let next = suc (n + length b.others) in
    let more = moment-least next bs m in
    let j = k - suc (length b.others) in
    let is : k ≡ length b.others + suc j = omega (arith, when) in
    ap (λ (i : ℕ). take i (woven at tail (b ∷ bs))) is ∙ take-beside b.others (moved at b.action ∷ woven at tail bs) (suc j)
    ∙ ap (λ (xs : List Action). beside b.others (moved at b.action ∷ xs)) (take-woven next at tail bs m j (omega arith) (omega (arith, when)))
