-- Lemmas about the element at a place of a list, after one element is replaced, one more is appended, or each element
-- is mapped.
use Rattle.std.proofs.Common.{◌≡◌, ℕ, zero, suc, ◌<◌, List, [], ◌∷◌, ◌++◌, ◌⊎◌, Some, All, map, length, inl, inr, refl, sym, ap, ◌∙◌, subst, arith, ◌≢◌, Any, Contains, slice_get, slice_set}
use Rattle.std.specs.Option.{option_map}
use Rattle.std.proofs.lemmas.List.{get_or-map, length-map, map-set, set-get_or, set-set}
use Rattle.std.proofs.lemmas.List.Elements.{All-set}
use Rattle.std.proofs.lemmas.Option.{get_or_from_slice_get, none-some, same_Some, slice_get-get_or, slice_get-map, slice_get_within}

-- each place within a list has an element
pub element : {X : Type 0} (xs : List X) (k : ℕ) → k < length xs → (x : X) × (slice_get xs k ≡ Some x)
element [] k lt = absurd (omega arith)
element (x ∷ xs) zero lt = (x, refl)
element (x ∷ xs) (suc k) lt = element xs k (omega arith)

-- ---- elements that are mapped

pub mapped-at : {X Y : Type 0} (f : X → Y) (xs : List X) (k : ℕ) (x : X) → slice_get xs k ≡ Some x → slice_get (map f xs) k ≡ Some (f x)
mapped-at f xs k x at = slice_get-map f xs k ∙ ap (option_map f) at

pub unmapped : {X Y : Type 0} (f : X → Y) (xs : List X) (k : ℕ) (y : Y) → slice_get (map f xs) k ≡ Some y → (x : X) × (slice_get xs k ≡ Some x) × (f x ≡ y)
unmapped f [] k y at = absurd (none-some y at)
unmapped f (x ∷ xs) zero y at = (x, refl, same_Some (f x) y at)
unmapped f (x ∷ xs) (suc k) y at = unmapped f xs k y at

-- if two lists are mapped to the same list, their elements at the same place are mapped to the same element
pub same-at : {X Y Z : Type 0} (f : X → Z) (g : Y → Z) (xs : List X) (ys : List Y) (k : ℕ) (x : X) (y : Y) → map f xs ≡ map g ys → slice_get xs k ≡ Some x → slice_get ys k ≡ Some y → f x ≡ g y
same-at {X} {Y} {Z} f g xs ys k x y same at here = same_Some (f x) (g y) (sym (mapped-at f xs k x at) ∙ (ap (λ (l : List Z). slice_get l k) same ∙ mapped-at g ys k y here))

-- a list is the image of another one of the same length, if each element is the image of the other's element at its place
pub same-mapped : {X Y : Type 0} (f : X → Y) (xs : List X) (ys : List Y) → length ys ≡ length xs
    → ((k : ℕ) (x : X) (y : Y) → slice_get xs k ≡ Some x → slice_get ys k ≡ Some y → y ≡ f x) → ys ≡ map f xs
same-mapped f [] [] long each = refl
same-mapped f (x ∷ xs) (y ∷ ys) long each =
    let first = each 0 x y refl refl in
    let rest = same-mapped f xs ys (omega arith) (λ k a b at here. each (suc k) a b at here) in
    λ i. first i ∷ rest i
same-mapped f _ _ long each = absurd (omega arith)

-- ---- one element is replaced

pub set-same : {X : Type 0} (xs : List X) (k : ℕ) (x : X) → slice_get xs k ≡ Some x → slice_set xs k x ≡ xs
set-same xs k x at = ap (slice_set xs k) (sym (get_or_from_slice_get xs k x x at)) ∙ set-get_or xs k x

pub same-set : {X Y : Type 0} (f : X → Y) (xs : List X) (k : ℕ) (x y : X) → slice_get xs k ≡ Some x → f y ≡ f x → map f (slice_set xs k y) ≡ map f xs
same-set f xs k x y at same = map-set f xs k y ∙ (ap (slice_set (map f xs) k) same ∙ set-same (map f xs) k (f x) (mapped-at f xs k x at))

pub set-there : {X : Type 0} (xs : List X) (k : ℕ) (x y : X) → slice_get xs k ≡ Some x → slice_get (slice_set xs k y) k ≡ Some y
set-there [] k x y at = absurd (none-some x at)
set-there (z ∷ xs) zero x y at = refl
set-there (z ∷ xs) (suc k) x y at = set-there xs k x y at

pub set-elsewhere : {X : Type 0} (xs : List X) (k j : ℕ) (y : X) → j ≢ k → slice_get (slice_set xs k y) j ≡ slice_get xs j
set-elsewhere (z ∷ xs) zero zero y apart = absurd (apart refl)
set-elsewhere (z ∷ xs) (suc k) (suc j) y apart = set-elsewhere xs k j y (λ e. apart (ap suc e))
set-elsewhere _ _ _ y apart = refl

-- After a replacement, the new element is at its place, and at any other place the element is the same as before.
pub set-at : {X : Type 0} (xs more : List X) (place k : ℕ) (x y z : X) → more ≡ slice_set xs place y → slice_get xs place ≡ Some x → k ≡ place → slice_get more k ≡ Some z → y ≡ z
set-at {X} xs more place k x y z is was here at = same_Some y z (sym (set-there xs place x y was) ∙ ((λ i. slice_get (sym is i) (sym here i)) ∙ at))

pub set-else : {X : Type 0} (xs more : List X) (place k : ℕ) (y z : X) → more ≡ slice_set xs place y → k ≢ place → slice_get more k ≡ Some z → slice_get xs k ≡ Some z
set-else {X} xs more place k y z is apart at = sym (set-elsewhere xs place k y apart) ∙ (ap (λ (l : List X). slice_get l k) (sym is) ∙ at)

-- ---- one element is appended

pub push-cases : {X : Type 0} (xs : List X) (x y : X) (k : ℕ) → slice_get (xs ++ x ∷ []) k ≡ Some y → (slice_get xs k ≡ Some y) ⊎ ((k ≡ length xs) × (x ≡ y))
push-cases [] x y zero at = inr (refl, same_Some x y at)
push-cases [] x y (suc k) at = absurd (none-some y at)
push-cases (z ∷ xs) x y zero at = inl at
push-cases (z ∷ xs) x y (suc k) at = elim (push-cases xs x y k at) [
  | inl h ↦ inl h
  | inr h ↦ inr (ap suc h.0, h.1)
]

-- ---- properties of one element, and of all

pub any-here : {X : Type 0} (P : X → Type 0) (xs : List X) (k : ℕ) (x : X) → slice_get xs k ≡ Some x → P x → Any P xs
any-here P xs k x at holds = (k, x, slice_get_within xs k x at, get_or_from_slice_get xs k x x at, holds)

pub any-at : {X : Type 0} (P : X → Type 0) (xs : List X) → Any P xs → (k : ℕ) × (x : X) × (slice_get xs k ≡ Some x) × P x
any-at {X} P xs (k, x, lt, is, holds) = (k, x, slice_get-get_or xs k x lt ∙ ap (λ (y : X). Some y) is, holds)

pub any-contains : {X : Type 0} (f : X → ℕ) (xs : List X) (v : ℕ) → Any (λ (x : X). f x ≡ v) xs → Contains (map f xs) v
any-contains f xs v (k, x, lt, is, id) = (k, omega (arith, lt, length-map xs f), get_or-map f xs k x v lt ∙ (ap f is ∙ id))

pub any-mapped : {X : Type 0} (f : X → ℕ) (xs : List X) (k v : ℕ) → slice_get (map f xs) k ≡ Some v → Any (λ (x : X). f x ≡ v) xs
any-mapped {X} f xs k v at = let there = unmapped f xs k v at in any-here (λ (x : X). f x ≡ v) xs k there.0 there.1 there.2

pub was-there : {X : Type 0} (P : X → Type 0) (xs : List X) (k : ℕ) (x : X) → slice_get xs k ≡ Some x → All P xs → P x
was-there P xs k x at all = subst P (get_or_from_slice_get xs k x x at) (all k x (slice_get_within xs k x at))

-- if all elements have a property after one is replaced, and the replaced element had the property, all elements had it
-- before
pub all-back : {X : Type 0} (P : X → Type 0) (xs : List X) (k : ℕ) (x y : X) → slice_get xs k ≡ Some x → P x → All P (slice_set xs k y) → All P xs
all-back P xs k x y at here all = subst (All P) (set-set xs k y x ∙ set-same xs k x at) (All-set P (slice_set xs k y) k x here all)
