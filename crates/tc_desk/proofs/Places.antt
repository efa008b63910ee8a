-- An event is at its place in each later journal.
use Rattle.tc_desk.proofs.Names.{◌≡◌, List, [], ◌∷◌, ◌++◌, length, take, Some, refl, sym, ap, slice_get, Event, IsBeginning, Moment, Own, made}

at-place : (xs : List Event) (e : Event) (ts : List Event) → slice_get ((xs ++ e ∷ []) ++ ts) (length xs) ≡ Some e
at-place [] e ts = refl
at-place (x ∷ xs) e ts = at-place xs e ts

before-place : (xs : List Event) (e : Event) (ts : List Event) → take (length xs) ((xs ++ e ∷ []) ++ ts) ≡ xs
before-place [] e ts = refl
before-place (x ∷ xs) e ts = ap (λ (l : List Event). x ∷ l) (before-place xs e ts)

pub stands-in : (before : Own) (now : Moment) (e : Event) (closed : Moment) → IsBeginning (made e now before).seen closed
    → (slice_get closed.entries (length now.entries) ≡ Some e) × (now ≡ record { head = closed.head; entries = take (length now.entries) closed.entries })
stands-in before now e closed later =
    let ts = later.1.0 in
    let whole : (now.entries ++ e ∷ []) ++ ts ≡ closed.entries = later.1.1 in
    let start : take (length now.entries) closed.entries ≡ now.entries = rw (← whole) (before-place now.entries e ts) in
    (rw (← whole) (at-place now.entries e ts), λ i. record { head = sym later.0 i; entries = sym start i })
