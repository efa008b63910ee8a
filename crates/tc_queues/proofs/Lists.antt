-- Lists whose items all have a property.
use Rattle.tc_queues.proofs.Names.{ℕ, suc, List, [], ◌∷◌, ◌++◌, map, take, drop, AllByRecursion}

pub all-append : {A : Type 0} (P : A → Type 0) (xs ys : List A) → AllByRecursion P xs → AllByRecursion P ys → AllByRecursion P (xs ++ ys)
all-append P [] ys h i = i
all-append P (x ∷ xs) ys h i = (h.0, all-append P xs ys h.1 i)

pub all-take : {A : Type 0} (P : A → Type 0) (n : ℕ) (xs : List A) → AllByRecursion P xs → AllByRecursion P (take n xs)
all-take P (suc n) (x ∷ xs) h = (h.0, all-take P n xs h.1)
all-take P _ _ h = tt

pub all-drop : {A : Type 0} (P : A → Type 0) (n : ℕ) (xs : List A) → AllByRecursion P xs → AllByRecursion P (drop n xs)
all-drop P (suc n) (x ∷ xs) h = all-drop P n xs h.1
all-drop P _ _ h = h

pub all-mapped : {A B : Type 0} (P : A → Type 0) (Q : B → Type 0) (f : A → B) (xs : List A) → ((x : A) → P x → Q (f x)) → AllByRecursion P xs → AllByRecursion Q (map f xs)
all-mapped P Q f [] each h = tt
all-mapped P Q f (x ∷ xs) each h = (each x h.0, all-mapped P Q f xs each h.1)

pub all-map : {A B : Type 0} (P : B → Type 0) (f : A → B) (xs : List A) → ((x : A) → P (f x)) → AllByRecursion P (map f xs)
all-map P f [] each = tt
all-map P f (x ∷ xs) each = (each x, all-map P f xs each)
