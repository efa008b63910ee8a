-- The session that was worked out by hand, in which a frame is lost and then comes twice, is one of a loop.
use Rattle.tc_laws.proofs.LoopsLemmas.Names.{Action, Arrive, Frame, Hear, Idle, IsLawfulWithin, IsLoop, KeepOrder, NoneSetsWithin, Other, Send, Some, [], arith, clcw_within, events, inl, inr, journal, known, no_limits, passed_on, refl, run_within, slice_get, smallest, some_of_first, suc, zero, ℕ, ◌+◌, ◌<◌, ◌≡◌, ◌≤◌, ◌⊎◌}
use Rattle.tc_laws.proofs.LoopsLemmas.Actions.{so-at}
use Rattle.tc_laws.proofs.LoopsLemmas.Begun.{smallest-whole}
use Rattle.tc_laws.proofs.LoopsLemmas.Starts.{allowed-from}
use Rattle.tc_laws.specs.Loops.Examples.{five, one_lost}

-- the action is the one that `one_lost` has at this moment
abbrev IsAt : ℕ → Action → Type 0
IsAt t (Send i) = ((t ≡ 0) × (i ≡ 0)) ⊎ (((t ≡ 1) × (i ≡ 1)) ⊎ ((t ≡ 4) × (i ≡ 0)))
IsAt t (Arrive i s) = ((t ≡ 2) × (i ≡ 1) × (s ≡ 1)) ⊎ (((t ≡ 5) × (i ≡ 0) × (s ≡ 4)) ⊎ ((t ≡ 6) × (i ≡ 0) × (s ≡ 4)))
IsAt t (Hear m) = ((t ≡ 3) × (m ≡ 3)) ⊎ ((t ≡ 7) × (m ≡ 6))
IsAt t (Other e) = ⊥
IsAt t Idle = ⊥

at : (t : ℕ) (a : Action) → slice_get one_lost t ≡ Some a → IsAt t a
at t a e = so-at IsAt one_lost t a
    (inl (refl, refl), (inr (inl (refl, refl)), (inl (refl, refl, refl), (inl (refl, refl), (inr (inr (refl, refl)), (inr (inl (refl, refl, refl)), (inr (inr (refl, refl, refl)), (inr (refl, refl), tt)))))))) e

in-order : KeepOrder one_lost
in-order = record {
  arrives = λ t i s e. arrived t i s (at t (Arrive i s) e);
  hears = λ t m e. let p = at t (Hear m) e in grind arith;
  frames_in_order = λ t u i j s r order e f. let p = at t (Arrive i s) e in let q = at u (Arrive j r) f in grind arith;
  reports_in_order = λ t u m n order e f. let p = at t (Hear m) e in let q = at u (Hear n) f in grind arith;
} where
  arrived : (t i s : ℕ) → IsAt t (Arrive i s) → (s < t) × (slice_get one_lost s ≡ Some (Send i))
  arrived t i s (inl p) = rw (p.0, p.1, p.2) (omega arith, refl)
  arrived t i s (inr (inl p)) = rw (p.0, p.1, p.2) (omega arith, refl)
  arrived t i s (inr (inr p)) = rw (p.0, p.1, p.2) (omega arith, refl)

in-window : (t i : ℕ) → IsAt t (Send i) → (known five one_lost t ≤ i) × (i < known five one_lost t + 5)
unfolding run_within some_of_first clcw_within
in-window t i (inl p) = rw (p.0, p.1) (omega arith, omega arith)
in-window t i (inr (inl p)) = rw (p.0, p.1) (omega arith, omega arith)
in-window t i (inr (inr p)) = rw (p.0, p.1) (omega arith, omega arith)

lawful : IsLawfulWithin five.limits five.settings (journal five one_lost)
unfolding IsLawfulWithin some_of_first passed_on no_limits
lawful = ((smallest-whole 255 1, refl), ((smallest-whole 255 0, refl), ((smallest-whole 255 0, refl), tt)))

none-sets : NoneSetsWithin five.limits five.settings [] (events five one_lost)
unfolding run_within some_of_first
none-sets zero e h = let q : Frame (smallest 255 1) ≡ e = cc in rw (← q) refl
none-sets (suc zero) e h = let q : Frame (smallest 255 0) ≡ e = cc in rw (← q) refl
none-sets (suc (suc zero)) e h = let q : Frame (smallest 255 0) ≡ e = cc in rw (← q) refl
none-sets (suc (suc (suc i))) e h = absurd cc

pub lost-loop : IsLoop five one_lost
lost-loop = record {
  window = omega arith;
  numbered = λ i. record { whole = smallest-whole 255 i; bypass = refl; control = refl; ns = refl };
  allowed = allowed-from 255 (omega arith);
  lawful = lawful;
  era = record { parts = refl; starts = inl (refl, refl); last = none-sets };
  possible = record { sends = λ t i e. in-window t i (at t (Send i) e); links = in-order; others = λ t e h. absurd (at t (Other e) h) };
}
