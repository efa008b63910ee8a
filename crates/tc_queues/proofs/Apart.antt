-- Settings with distinct keys, looked at one after the other.
use Rattle.tc_queues.proofs.Names.{◌≡◌, ◌≢◌, ℕ, ◌+◌, ◌<◌, Bool, true, false, List, length, take, get_or, replicate, sym, ap, ◌∙◌, inl, inr, arith, Any, AllPairs, ◌↔◌, set, cases_eq, get_or_default, get_or-set_same, get_or-set_other, get_or-replicate, length-set, length-replicate, length-take}
use Rattle.std.proofs.lemmas.List.{get_or-take}

-- one of the first `i` items has the key `n`
abbrev Earlier : {A : Type 0} → (A → ℕ) → List A → ℕ → ℕ → Type 0
Earlier key qs i n = Any (λ p. key p ≡ n) (take i qs)

pub not-apart : {A : Type 0} (key : A → ℕ) (qs : List A) (i : ℕ) (d : A) → i < length qs → Earlier key qs i (key (get_or qs i d)) → AllPairs (λ p q. key p ≢ key q) qs → ⊥
not-apart key qs i d lt earlier apart =
    let k = earlier.0 in
    let x = earlier.1 in
    let before : k < i = omega (arith, length-take i qs) in
    let at : get_or qs k x ≡ x = sym (get_or-take i qs k x before) ∙ earlier.3 in
    let here : get_or qs i x ≡ get_or qs i d = get_or_default qs i x d lt in
    apart k i x before lt (ap key at ∙ earlier.4 ∙ sym (ap key here))

-- the first `i` items have distinct keys
abbrev pub ApartBelow : {A : Type 0} → (A → ℕ) → List A → ℕ → Type 0
ApartBelow {A} key qs i = (j k : ℕ) (d : A) → j < k → k < i → key (get_or qs j d) ≢ key (get_or qs k d)

pub apart-more : {A : Type 0} (key : A → ℕ) (qs : List A) (i : ℕ) (d : A) → i < length qs → (Earlier key qs i (key (get_or qs i d)) → ⊥) → ApartBelow key qs i → ApartBelow key qs (i + 1)
apart-more key qs i d lt none below j k e jk ki same = elim (cases_eq k i) [
  | inl last ↦ (
      let before : j < i = omega arith in
      let here : get_or qs k e ≡ get_or qs i d = ap (λ n. get_or qs n e) last ∙ get_or_default qs i e d lt in
      let at : get_or (take i qs) j (get_or qs j e) ≡ get_or qs j e = get_or-take i qs j (get_or qs j e) before ∙ get_or_default qs j (get_or qs j e) e (omega arith) in
      none (j, get_or qs j e, omega (arith, length-take i qs), at, same ∙ ap key here))
  | inr other ↦ below j k e jk (omega arith) same
]

-- the table has marked exactly the keys of the first `i` items
abbrev pub AreMarked : {A : Type 0} → (A → ℕ) → List A → ℕ → List Bool → Type 0
AreMarked key qs i seen = (n : ℕ) → n < length seen → (get_or seen n false ≡ true) ↔ Earlier key qs i n

pub none-marked : {A : Type 0} (key : A → ℕ) (qs : List A) (count : ℕ) → AreMarked key qs 0 (replicate count false)
none-marked key qs count n lt = (λ yes. absurd (let no : get_or (replicate count false) n false ≡ false = get_or-replicate count n false false (rw (length-replicate count false) at lt) in let both : false ≡ true = sym no ∙ yes in cc), λ earlier. absurd (let none = earlier.2 in omega arith))

pub marked-more : {A : Type 0} (key : A → ℕ) (qs : List A) (i : ℕ) (d : A) (seen : List Bool) → i < length qs → key (get_or qs i d) < length seen → AreMarked key qs i seen → AreMarked key qs (i + 1) (set seen (key (get_or qs i d)) true)
marked-more key qs i d seen lt within marked n small =
    let inside : n < length seen = omega (arith, length-set seen (key (get_or qs i d)) true) in
    elim (cases_eq n (key (get_or qs i d))) [
      | inl same ↦ (λ yes. here same, λ earlier. rw same (get_or-set_same seen (key (get_or qs i d)) true false within))
      | inr other ↦ (
        λ yes. later ((marked n inside).0 (sym (get_or-set_other seen (key (get_or qs i d)) n true false other) ∙ yes)),
        λ earlier. get_or-set_other seen (key (get_or qs i d)) n true false other ∙ (marked n inside).1 (before other earlier),
      )
    ]
  where
    here : n ≡ key (get_or qs i d) → Earlier key qs (i + 1) n
    here same = (i, get_or qs i d, omega (arith, length-take (i + 1) qs), get_or-take (i + 1) qs i (get_or qs i d) (omega arith) ∙ get_or_default qs i (get_or qs i d) d lt, sym same)

    later : Earlier key qs i n → Earlier key qs (i + 1) n
    later e =
        let k = e.0 in
        let x = e.1 in
        let small : k < i = (let lt = e.2 in omega (arith, length-take i qs)) in
        (k, x, (let lt = e.2 in omega (arith, length-take i qs, length-take (i + 1) qs)), get_or-take (i + 1) qs k x (omega arith) ∙ sym (get_or-take i qs k x small) ∙ e.3, e.4)

    before : n ≢ key (get_or qs i d) → Earlier key qs (i + 1) n → Earlier key qs i n
    before other e =
        let k = e.0 in
        let x = e.1 in
        let within_next : k < i + 1 = (let lt = e.2 in omega (arith, length-take (i + 1) qs)) in
        let at : get_or qs k x ≡ x = sym (get_or-take (i + 1) qs k x within_next) ∙ e.3 in
        let not_here : k ≢ i = λ last. other (sym (ap key (sym (get_or_default qs i x d lt) ∙ sym (ap (λ m. get_or qs m x) last) ∙ at) ∙ e.4)) in
        let small : k < i = omega (arith, not_here) in
        (k, x, (let lt = e.2 in omega (arith, length-take i qs, length-take (i + 1) qs)), get_or-take i qs k x small ∙ at, e.4)
