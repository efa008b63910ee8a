-- The distance of N(S) from V(R) decides the position of N(S).
use Rattle.std.proofs.Common.{◌≡◌, ℕ, zero, suc, ◌+◌, ◌-◌, ◌/◌, ◌%◌, ◌<◌, ◌≤◌, Bool, true, false, ◌||◌, ◌⊎◌, eqb, refl, ap, sym, ◌∙◌, arith, inl, inr}
use Rattle.std.specs.Prelude.{◌↔◌, IsTrue}
use Rattle.std.proofs.Math.Bool.{or-true}
use Rattle.std.proofs.lemmas.Bool.{ne_eqb, eq-eqb, cases_eq}
use Rattle.tc_link.specs.declared.window.Place.TheVariants.{Ahead, Behind, Outside}
use Rattle.tc_link.specs.Window.{some_of_first, is_ahead, is_behind, place_of}

some-none : (n : ℕ) (passes : ℕ → Bool) → ((k : ℕ) → 1 ≤ k → k ≤ n → passes k ≡ false) → some_of_first n passes ≡ false
unfolding some_of_first
some-none zero passes none = refl
some-none (suc n) passes none = rw (none (n + 1) (omega arith) (omega arith)) (some-none n passes (λ k low high. none k low (omega arith)))

some-found : (n k : ℕ) (passes : ℕ → Bool) → 1 ≤ k → k ≤ n → passes k ≡ true → some_of_first n passes ≡ true
unfolding some_of_first
some-found zero k passes low high found = absurd (omega arith)
some-found (suc n) k passes low high found =
    elim (cases_eq k (n + 1)) [
      | inl e ↦ rw (ap passes (sym e) ∙ found) refl
      | inr ne ↦ rw (some-found n k passes low (omega arith) found) (or-true (passes (n + 1)))
    ]

-- N(S) is ahead if its distance `d` from V(R) is positive and less than half the width
pub ahead : (width vr ns d : ℕ) → vr < 256 → d < 256 → (vr + d) % 256 ≡ ns → 0 < d → d < width / 2 → place_of width vr ns ≡ Ahead
ahead width vr ns d vr_fits d_fits at low high =
    let apart : eqb ns vr ≡ false = ne_eqb ns vr (λ e. omega arith) in
    let found : is_ahead width vr ns ≡ true = some-found (width / 2 - 1) d (λ k. eqb ns ((vr + k) % 256)) low (omega arith) (eq-eqb _ _ (sym at)) in
    rw (apart, found) refl

not_ahead : (width vr ns d : ℕ) → vr < 256 → d < 256 → (vr + d) % 256 ≡ ns → 0 < d → width / 2 ≤ d → is_ahead width vr ns ≡ false
not_ahead width vr ns d vr_fits d_fits at low high = some-none (width / 2 - 1) (λ k. eqb ns ((vr + k) % 256)) (λ k from to. ne_eqb _ _ (λ e. omega arith))

pub behind : (width vr ns d : ℕ) → vr < 256 → d < 256 → (vr + d) % 256 ≡ ns → 0 < d → width / 2 ≤ d → 256 - d ≤ width / 2 → place_of width vr ns ≡ Behind
behind width vr ns d vr_fits d_fits at low high near =
    let apart : eqb ns vr ≡ false = ne_eqb ns vr (λ e. omega arith) in
    let found : is_behind width vr ns ≡ true = some-found (width / 2) (256 - d) (λ k. eqb ((ns + k) % 256) vr) (omega arith) near (eq-eqb _ _ (omega arith)) in
    rw (apart, not_ahead width vr ns d vr_fits d_fits at low high, found) refl

pub outside : (width vr ns d : ℕ) → vr < 256 → d < 256 → (vr + d) % 256 ≡ ns → 0 < d → width / 2 ≤ d → width / 2 < 256 - d → place_of width vr ns ≡ Outside
outside width vr ns d vr_fits d_fits at low high far =
    let apart : eqb ns vr ≡ false = ne_eqb ns vr (λ e. omega arith) in
    let none : is_behind width vr ns ≡ false = some-none (width / 2) (λ k. eqb ((ns + k) % 256) vr) (λ k from to. ne_eqb _ _ (λ e. omega arith)) in
    rw (apart, not_ahead width vr ns d vr_fits d_fits at low high, none) refl

either : (a b : Bool) → (a || b) ≡ true → (a ≡ true) ⊎ (b ≡ true)
either true b found = inl refl
either false b found = inr found

some-number : (n : ℕ) (passes : ℕ → Bool) → some_of_first n passes ≡ true → (k : ℕ) × (1 ≤ k) × (k ≤ n) × (passes k ≡ true)
unfolding some_of_first
some-number zero passes found = absurd (cc)
some-number (suc n) passes found = elim (either (passes (n + 1)) (some_of_first n passes) found) [
  | inl here ↦ (n + 1, omega arith, omega arith, here)
  | inr before ↦ let below = some-number n passes before in (below.0, below.1, let most = below.2 in omega arith, below.3)
]

-- `some_of_first n passes` is true exactly when `passes` is true of some number from 1 to `n`
pub some-is-number : (n : ℕ) (passes : ℕ → Bool) → IsTrue (some_of_first n passes) ↔ ((k : ℕ) × (1 ≤ k) × (k ≤ n) × IsTrue (passes k))
some-is-number n passes = (some-number n passes, λ found. some-found n found.0 passes found.1 found.2 found.3)
