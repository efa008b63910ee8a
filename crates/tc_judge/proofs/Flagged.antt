-- The components of a layer, by their places.
use Rattle.std.specs.Prelude.{◌≡◌, ℕ, ◌+◌, ◌<◌, ◌≤◌, ◌⊎◌, ◌↔◌, Bool, true, false, IsTrue, List, slice_index_or}
use Rattle.std.proofs.Common.{subst, sym, refl, inl, inr, ap, ◌∙◌, arith}
use Rattle.std.proofs.lemmas.Bool.{cases_lt}
use Rattle.tc_link.specs.Bits.{bit}
use Rattle.tc_link.specs.declared.farm.Report.{Report}
use Rattle.tc_judge.specs.Layer.{Has, SomeOf, place_in_layer}
use Rattle.tc_judge.specs.Reading.{IsShown, shown_state}

bit-small : (b : Bool) → bit b < 2
bit-small true = omega arith
bit-small false = omega arith

bit-same : (a b : Bool) → bit a ≡ bit b → a ≡ b
bit-same true true e = refl
bit-same true false e = absurd (omega (arith, e))
bit-same false true e = absurd (omega (arith, e))
bit-same false false e = refl

same-report : (r s : Report) → r.state ≡ s.state → r.vr ≡ s.vr → r.lockout ≡ s.lockout → r.wait ≡ s.wait → r.retransmit ≡ s.retransmit → r.farm_b ≡ s.farm_b → r ≡ s
same-report r s a b c d e f =
    ap (λ x. record { state = x; vr = r.vr; lockout = r.lockout; wait = r.wait; retransmit = r.retransmit; farm_b = r.farm_b }) a
    ∙ ap (λ x. record { state = s.state; vr = x; lockout = r.lockout; wait = r.wait; retransmit = r.retransmit; farm_b = r.farm_b }) b
    ∙ ap (λ x. record { state = s.state; vr = s.vr; lockout = x; wait = r.wait; retransmit = r.retransmit; farm_b = r.farm_b }) c
    ∙ ap (λ x. record { state = s.state; vr = s.vr; lockout = s.lockout; wait = x; retransmit = r.retransmit; farm_b = r.farm_b }) d
    ∙ ap (λ x. record { state = s.state; vr = s.vr; lockout = s.lockout; wait = s.wait; retransmit = x; farm_b = r.farm_b }) e
    ∙ ap (λ x. record { state = s.state; vr = s.vr; lockout = s.lockout; wait = s.wait; retransmit = s.retransmit; farm_b = x }) f

pub place-bound : (r : Report) → IsShown r → r.vr < 256 → place_in_layer r < 8192
place-bound r f v = let l : bit r.lockout < 2 = bit-small r.lockout in let w : bit r.wait < 2 = bit-small r.wait in let t : bit r.retransmit < 2 = bit-small r.retransmit in omega (arith, l, w, t, v, f.counter)

pub same-place : (r s : Report) → IsShown r → IsShown s → r.vr < 256 → s.vr < 256 → place_in_layer r ≡ place_in_layer s → r ≡ s
same-place r s f g v w e = same-report r s (f.state ∙ ap (λ l. shown_state l r.wait) lockouts ∙ ap (λ x. shown_state s.lockout x) waits ∙ sym g.state) numbers lockouts waits (bit-same r.retransmit s.retransmit bits.2) bits.3 where
  small : (bit r.lockout < 2) × (bit r.wait < 2) × (bit r.retransmit < 2) × (bit s.lockout < 2) × (bit s.wait < 2) × (bit s.retransmit < 2)
  small = (bit-small r.lockout, bit-small r.wait, bit-small r.retransmit, bit-small s.lockout, bit-small s.wait, bit-small s.retransmit)

  bits : (bit r.lockout ≡ bit s.lockout) × (bit r.wait ≡ bit s.wait) × (bit r.retransmit ≡ bit s.retransmit) × (r.farm_b ≡ s.farm_b)
  bits = (
    omega (arith, e, v, w, f.counter, g.counter, small.0, small.1, small.2, small.3, small.4, small.5),
    omega (arith, e, v, w, f.counter, g.counter, small.0, small.1, small.2, small.3, small.4, small.5),
    omega (arith, e, v, w, f.counter, g.counter, small.0, small.1, small.2, small.3, small.4, small.5),
    omega (arith, e, v, w, f.counter, g.counter, small.0, small.1, small.2, small.3, small.4, small.5),
  )

  numbers : r.vr ≡ s.vr
  numbers = omega (arith, e, v, w, f.counter, g.counter, small.0, small.1, small.2, small.3, small.4, small.5)

  lockouts : r.lockout ≡ s.lockout
  lockouts = bit-same r.lockout s.lockout bits.0

  waits : r.wait ≡ s.wait
  waits = bit-same r.wait s.wait bits.1

-- components of a layer below a place have a property
abbrev pub SomeBelow : (Report → Type 0) → ℕ → List Bool → Type 0
SomeBelow Holds i layer = (r : Report) × Has layer r × (place_in_layer r < i) × Holds r

pub none-below : (Holds : Report → Type 0) (layer : List Bool) → SomeBelow Holds 0 layer → ⊥
none-below Holds layer s = absurd (omega (arith, s.2))

pub more-below : (Holds : Report → Type 0) (i : ℕ) (layer : List Bool) → SomeBelow Holds i layer → SomeBelow Holds (i + 1) layer
more-below Holds i layer s = (s.0, s.1, omega (arith, s.2), s.3)

-- if the flag at place i is set, its components are the only further ones below place i + 1
pub one-below : (Holds : Report → Type 0) (i : ℕ) (layer : List Bool) (x : Report) → place_in_layer x ≡ i → IsShown x → x.vr < 256 → IsTrue (slice_index_or layer i false)
    → (SomeBelow Holds i layer ⊎ Holds x) ↔ SomeBelow Holds (i + 1) layer
one-below Holds i layer x at f v flag = (there, back) where
  there : SomeBelow Holds i layer ⊎ Holds x → SomeBelow Holds (i + 1) layer
  there (inl s) = more-below Holds i layer s
  there (inr h) = (x, record { shown = f; number = v; flag = subst (λ k. IsTrue (slice_index_or layer k false)) (sym at) flag }, omega (arith, at), h)

  back : SomeBelow Holds (i + 1) layer → SomeBelow Holds i layer ⊎ Holds x
  back s = by (cases_lt (place_in_layer s.0) i) where
    by : (place_in_layer s.0 < i) ⊎ (i ≤ place_in_layer s.0) → SomeBelow Holds i layer ⊎ Holds x
    by (inl lt) = inl (s.0, s.1, lt, s.3)
    by (inr ge) =
        let e : place_in_layer s.0 ≡ i = omega (arith, s.2, ge) in
        inr (subst Holds (same-place s.0 x s.1.shown f s.1.number v (e ∙ sym at)) s.3)

-- if the flag at place i isn't set, there are no further components below place i + 1
pub not-below : (Holds : Report → Type 0) (i : ℕ) (layer : List Bool) → slice_index_or layer i false ≡ false → SomeBelow Holds (i + 1) layer → SomeBelow Holds i layer
not-below Holds i layer off s = by (cases_lt (place_in_layer s.0) i) where
  by : (place_in_layer s.0 < i) ⊎ (i ≤ place_in_layer s.0) → SomeBelow Holds i layer
  by (inl lt) = (s.0, s.1, lt, s.3)
  by (inr ge) =
      let e : place_in_layer s.0 ≡ i = omega (arith, s.2, ge) in
      let on : slice_index_or layer i false ≡ true = subst (λ k. IsTrue (slice_index_or layer k false)) e s.1.flag in
      absurd (cc (on, off))

pub all-below : (Holds : Report → Type 0) (i : ℕ) (layer : List Bool) → 8192 ≤ i → SomeBelow Holds i layer ↔ SomeOf Holds layer
all-below Holds i layer h = ((λ s. (s.0, s.1, s.3)), (λ s. (s.0, s.1, (let b : place_in_layer s.0 < 8192 = place-bound s.0 s.1.shown s.1.number in omega (arith, b, h)), s.2)))
