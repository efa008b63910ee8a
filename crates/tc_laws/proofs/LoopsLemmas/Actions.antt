-- Lists of actions and their parts.
use Rattle.tc_laws.proofs.LoopsLemmas.Names.{subst, arith, events_at, flat_map-append, Action, Arrive, Event, Frame, Hear, List, Loop, None, Other, Send, Some, [], ap, begun_from, events, heard, known_from, max, refl, reported, slice_get, suc, take, zero, ℕ, ◌++◌, ◌+◌, ◌∷◌, ◌≡◌}

pub take-some : {A : Type 0} (xs : List A) (t : ℕ) (a : A) → slice_get xs t ≡ Some a → take (suc t) xs ≡ take t xs ++ a ∷ []
take-some [] t a e = absurd cc
take-some (x ∷ xs) zero a e = let q : x ≡ a = cc in rw q refl
take-some (x ∷ xs) (suc t) a e = ap (λ ys. x ∷ ys) (take-some xs t a e)

pub take-none : {A : Type 0} (xs : List A) (t : ℕ) → slice_get xs t ≡ None → take (suc t) xs ≡ take t xs
take-none [] zero e = refl
take-none [] (suc t) e = refl
take-none (x ∷ xs) zero e = absurd cc
take-none (x ∷ xs) (suc t) e = ap (λ ys. x ∷ ys) (take-none xs t e)

pub events-append : (l : Loop) (xs ys : List Action) → events l (xs ++ ys) ≡ events l xs ++ events l ys
events-append l = flat_map-append (events_at l.frames)

pub known-append : (l : Loop) (session : List Action) (a : ℕ) (xs ys : List Action) → known_from l session a (xs ++ ys) ≡ known_from l session (known_from l session a xs) ys
known-append l session a [] ys = refl
known-append l session a (Hear m ∷ xs) ys = known-append l session (heard l.first l.window a (reported l session m)) xs ys
known-append l session a (x ∷ xs) ys = known-append l session a xs ys

pub begun-append : (n : ℕ) (xs ys : List Action) → begun_from n (xs ++ ys) ≡ begun_from (begun_from n xs) ys
begun-append n [] ys = refl
begun-append n (Send i ∷ xs) ys = begun-append (max n (i + 1)) xs ys
begun-append n (x ∷ xs) ys = begun-append n xs ys

-- each event of a session is the event of an action at some moment
pub moment-of : (l : Loop) (session : List Action) (place : ℕ) (e : Event) → slice_get (events l session) place ≡ Some e
    → (t : ℕ) × (a : Action) × (slice_get session t ≡ Some a) × (events_at l.frames a ≡ e ∷ []) × (events l (take t session) ≡ take place (events l session))
moment-of l [] place e q = absurd cc
moment-of l (Arrive i s ∷ rest) zero e q = (0, Arrive i s, refl, cc, refl)
moment-of l (Other f ∷ rest) zero e q = (0, Other f, refl, cc, refl)
moment-of l (Arrive i s ∷ rest) (suc place) e q = let m = moment-of l rest place e q in (suc m.0, m.1, m.2, m.3, ap (λ es. Frame (l.frames i) ∷ es) m.4)
moment-of l (Other f ∷ rest) (suc place) e q = let m = moment-of l rest place e q in (suc m.0, m.1, m.2, m.3, ap (λ es. f ∷ es) m.4)
moment-of l (_ ∷ rest) place e q = let m = moment-of l rest place e q in (suc m.0, m.1, m.2, m.3, m.4)

-- each action of a list has a property that depends on its moment
abbrev pub AreSo : (ℕ → Action → Type 0) → ℕ → List Action → Type 0
AreSo Is n [] = Unit {0}
AreSo Is n (a ∷ rest) = Is n a × AreSo Is (suc n) rest

pub so-from : (Is : ℕ → Action → Type 0) (n : ℕ) (xs : List Action) (t : ℕ) (a : Action) → AreSo Is n xs → slice_get xs t ≡ Some a → Is (n + t) a
so-from Is n [] t a each e = absurd cc
so-from Is n (x ∷ xs) zero a each e = let q : x ≡ a = cc in let at : n ≡ n + 0 = omega arith in subst (λ k. Is k a) at (subst (Is n) q each.0)
so-from Is n (x ∷ xs) (suc t) a each e = let at : suc n + t ≡ n + suc t = omega arith in subst (λ k. Is k a) at (so-from Is (suc n) xs t a each.1 e)

pub so-at : (Is : ℕ → Action → Type 0) (xs : List Action) (t : ℕ) (a : Action) → AreSo Is 0 xs → slice_get xs t ≡ Some a → Is t a
so-at Is xs t a each e = subst (λ k. Is k a) (omega arith) (so-from Is 0 xs t a each e)
