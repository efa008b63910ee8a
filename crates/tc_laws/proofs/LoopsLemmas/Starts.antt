-- The starts that were worked out by hand. Two of them meet all premises of a start.
use Rattle.tc_laws.proofs.LoopsLemmas.Names.{Action, All, Arrive, Bool, ChannelState, Frame, Hear, Idle, IsAllowed, IsLawfulWithin, IsLoop, IsNumbered, IsOctets, IsOther, IsStart, IsWhole, KeepOrder, List, NamesAnother, None, NoneSetsWithin, Other, QueueSetting, Release, Send, Some, Take, [], arith, around, begun, clcw_within, drop, era, era_before, events, false, header_of, inl, inr, journal, known, acknowledged, by_bd, known_since, learnt_by_9, nat_lt, nat_tests, no_limits, octets-append, octets-cons, passed_on, plain_start, receiver, refl, run_within, session_before, set_by, slice_get, smallest, some_of_first, subst, suc, take, trap, true, zero, ℕ, ◌%◌, ◌&&◌, ◌+◌, ◌<◌, ◌∷◌, ◌≡◌, ◌≤◌, ◌⊎◌, All-cons, All-nil}
use Rattle.tc_channel.specs.Examples as example
use Rattle.tc_laws.proofs.LoopsLemmas.Begun.{smallest-whole}
use Rattle.tc_laws.proofs.LoopsLemmas.Actions.{so-at}

-- the flag that is set if all numbers are octets
abbrev pub small : List ℕ → Bool
small [] = true
small (x ∷ xs) = nat_lt x 256 && small xs

pub octets-by : (xs : List ℕ) → small xs ≡ true → IsOctets xs
octets-by [] all = λ i. omega arith
octets-by (x ∷ xs) all = octets-cons x xs (grind (arith, nat_tests)) (octets-by xs (grind (arith, nat_tests)))

pub whole-0 : IsWhole (around 9 0)
whole-0 = smallest-whole 0 0

pub whole-1 : IsWhole (around 9 1)
whole-1 = record { each = octets-by (around 9 1) refl; least = omega arith; most = omega arith; version = refl; spare = refl; named = refl }

pub whole-2 : (i : ℕ) → IsWhole (around 9 (suc (suc i)))
whole-2 i = record { each = each; least = omega arith; most = omega arith; version = refl; spare = refl; named = refl } where
  back : List ℕ
  back = 0xc0 ∷ 0x10 ∷ 0x05 ∷ 0xc0 ∷ 0x00 ∷ 0x00 ∷ 0x00 ∷ 0xaa ∷ []

  each : IsOctets (around 9 (suc (suc i)))
  each = octets-append (0x00 ∷ 0x2a ∷ 0x04 ∷ 0x0c ∷ []) ((9 + i) % 256 ∷ back) (octets-by (0x00 ∷ 0x2a ∷ 0x04 ∷ 0x0c ∷ []) refl)
      (octets-cons ((9 + i) % 256) back (omega arith) (octets-by back refl))

pub whole-bd : IsWhole by_bd
whole-bd = record { each = octets-by by_bd refl; least = omega arith; most = omega arith; version = refl; spare = refl; named = refl }

numbered : (i : ℕ) → IsNumbered (era learnt_by_9) i
numbered i =
    let at : suc (suc i) ≡ learnt_by_9.directive + 1 + i = omega arith in
    record {
      whole = subst (λ n. IsWhole (around 9 n)) at (whole-2 i);
      bypass = subst (λ n. (header_of (around 9 n)).bypass ≡ false) at refl;
      control = subst (λ n. (header_of (around 9 n)).control ≡ false) at refl;
      ns = subst (λ n. (header_of (around 9 n)).ns ≡ (9 + i) % 256) at refl;
    }

lawful : IsLawfulWithin learnt_by_9.loop.limits learnt_by_9.loop.settings (journal learnt_by_9.loop learnt_by_9.session)
unfolding IsLawfulWithin some_of_first passed_on no_limits
lawful =
    let packet : List ℕ = 0x10 ∷ 0x05 ∷ 0xc0 ∷ 0x00 ∷ 0x00 ∷ 0x00 ∷ 0xaa ∷ [] in
    ((whole-0, refl), ((whole-1, refl), ((whole-1, refl), ((whole-2 0, refl), ((whole-bd, refl), (omega arith, (omega arith, ((0, record { key = 5; capacity = 1; admitted = packet ∷ []; taken = 0 }, omega arith, refl, (refl, omega arith)), tt))))))))

one-item : {A : Type 0} (P : A → Type 0) (a : A) → P a → All P (a ∷ [])
one-item P a h = All-cons P a [] h (All-nil P)

pub allowed-from : (first : ℕ) → first < 256 → IsAllowed (record (example.buffer_of 2) { first = first })
allowed-from first low = record {
  vcid = omega arith;
  width = record { least = omega arith; most = omega arith; even = refl };
  buffer = (omega arith, omega arith);
  first = omega arith;
  apids = one-item (λ (q : QueueSetting). q.apid ≤ 2046) (record { apid = 5; capacity = 1 }) (omega arith);
  apart = λ i j d before within. absurd (omega arith);
  capacities = one-item (λ (q : QueueSetting). (1 ≤ q.capacity) × (q.capacity ≤ 256)) (record { apid = 5; capacity = 1 }) (omega arith, omega arith);
  maps = λ k d within. absurd (omega arith);
  maps_apart = λ i j d before within. absurd (omega arith);
  unit_capacities = λ k d within. absurd (omega arith);
  by_headers = λ plain. absurd cc;
}

pub allowed-2 : IsAllowed (example.buffer_of 2)
allowed-2 = allowed-from 0 (omega arith)

-- A condition that the action of `learnt_by_9` at this moment meets. An event must only be one that `IsStart` allows.
abbrev IsAt : ℕ → Action → Type 0
IsAt t (Send j) = ((t ≡ 0) × (j ≡ 0)) ⊎ (((t ≡ 2) × (j ≡ 1)) ⊎ (((t ≡ 5) × (j ≡ 1)) ⊎ ((t ≡ 7) × (j ≡ 2))))
IsAt t (Arrive j s) = ((t ≡ 1) × (j ≡ 0) × (s ≡ 0)) ⊎ (((t ≡ 4) × (j ≡ 1) × (s ≡ 2)) ⊎ (((t ≡ 8) × (j ≡ 1) × (s ≡ 2)) ⊎ ((t ≡ 9) × (j ≡ 2) × (s ≡ 7))))
IsAt t (Hear m) = ((t ≡ 3) × (m ≡ 0)) ⊎ (((t ≡ 6) × (m ≡ 5)) ⊎ (((t ≡ 11) × (m ≡ 11)) ⊎ ((t ≡ 12) × (m ≡ 11))))
IsAt t (Other e) = IsOther e × ((state : ChannelState) → set_by learnt_by_9.loop.settings state e ≡ None)
IsAt t Idle = ⊥

at : (t : ℕ) (a : Action) → slice_get learnt_by_9.session t ≡ Some a → IsAt t a
at t a e = so-at IsAt learnt_by_9.session t a
    (inl (refl, refl), (inl (refl, refl, refl), (inr (inl (refl, refl)), (inl (refl, refl), (inr (inl (refl, refl, refl)), (inr (inr (inl (refl, refl))), (inr (inl (refl, refl)), (inr (inr (inr (refl, refl))), (inr (inr (inl (refl, refl, refl))), (inr (inr (inr (refl, refl, refl))), ((λ low control. absurd cc, λ state. refl), (inr (inr (inl (refl, refl))), (inr (inr (inr (refl, refl))), ((tt, λ state. refl), ((tt, λ state. refl), ((tt, λ state. refl), tt))))))))))))))))
    e

in-order : KeepOrder learnt_by_9.session
in-order = record {
  arrives = λ t i s e. arrived t i s (at t (Arrive i s) e);
  hears = λ t m e. let p = at t (Hear m) e in grind arith;
  frames_in_order = λ t u i j s r order e f. let p = at t (Arrive i s) e in let q = at u (Arrive j r) f in grind arith;
  reports_in_order = λ t u m n order e f. let p = at t (Hear m) e in let q = at u (Hear n) f in grind arith;
} where
  arrived : (t i s : ℕ) → IsAt t (Arrive i s) → (s < t) × (slice_get learnt_by_9.session s ≡ Some (Send i))
  arrived t i s (inl p) = rw (p.0, p.1, p.2) (omega arith, refl)
  arrived t i s (inr (inl p)) = rw (p.0, p.1, p.2) (omega arith, refl)
  arrived t i s (inr (inr (inl p))) = rw (p.0, p.1, p.2) (omega arith, refl)
  arrived t i s (inr (inr (inr p))) = rw (p.0, p.1, p.2) (omega arith, refl)

last : NoneSetsWithin learnt_by_9.loop.limits learnt_by_9.loop.settings (journal learnt_by_9.loop (take 9 learnt_by_9.session)) (events learnt_by_9.loop (drop 9 learnt_by_9.session))
unfolding run_within some_of_first passed_on no_limits
last zero e h = let q : Frame (around 9 2) ≡ e = cc in rw (← q) refl
last (suc zero) e h = let q : Frame by_bd ≡ e = cc in rw (← q) refl
last (suc (suc zero)) e h = let q : Release ≡ e = cc in rw (← q) refl
last (suc (suc (suc zero))) e h = let q : Release ≡ e = cc in rw (← q) refl
last (suc (suc (suc (suc zero)))) e h = let q : Take 5 ≡ e = cc in rw (← q) refl
last (suc (suc (suc (suc (suc i))))) e h = absurd cc

sends : (t i : ℕ) → IsAt t (Send (1 + 1 + i)) → (6 < t) × (known_since learnt_by_9 t ≤ i) × (i < known_since learnt_by_9 t + 5)
unfolding run_within some_of_first clcw_within
sends t i (inl p) = let q = p.1 in absurd (omega arith)
sends t i (inr (inl p)) = let q = p.1 in absurd (omega arith)
sends t i (inr (inr (inl p))) = let q = p.1 in absurd (omega arith)
sends t i (inr (inr (inr p))) = let q = p.1 in let none : i ≡ 0 = omega arith in rw (p.0, none) (omega arith, omega arith, omega arith)

pub each-premise : IsStart learnt_by_9
unfolding run_within some_of_first clcw_within
each-premise = record {
  window = omega arith;
  directive = refl;
  numbered = numbered;
  allowed = allowed-2;
  lawful = lawful;
  obeyed = (2, refl, refl);
  again = (omega arith, (2, refl, refl));
  last = last;
  believes = (5, refl, omega arith);
  stops = λ t u j e low f. let p = at t (Send j) e in let q = at u (Send 1) f in grind arith;
  asks = λ t e. let p = at t (Send 1) e in grind arith;
  sends = λ t i e. sends t i (at t (Send (learnt_by_9.directive + 1 + i)) e);
  links = in-order;
  others = λ t e h. let p = at t (Other e) h in (p.0, p.1 (receiver learnt_by_9.loop (take t learnt_by_9.session)));
}

-- ---- the plain start, whose sender may have any window below 256

whole-unlock : IsWhole example.unlock
whole-unlock = record { each = octets-by example.unlock refl; least = omega arith; most = omega arith; version = refl; spare = refl; named = refl }

plain-lawful : (window : ℕ) → IsLawfulWithin (plain_start window).loop.limits (plain_start window).loop.settings (journal (plain_start window).loop (plain_start window).session)
unfolding IsLawfulWithin some_of_first passed_on no_limits
plain-lawful window = ((whole-1, refl), ((whole-unlock, refl), tt))

abbrev IsPlain : ℕ → Action → Type 0
IsPlain t (Send j) = (t ≡ 0) × (j ≡ 1)
IsPlain t (Arrive j s) = (t ≡ 1) × (j ≡ 1) × (s ≡ 0)
IsPlain t (Hear m) = (t ≡ 2) × (m ≡ 2)
IsPlain t (Other e) = IsOther e × ((state : ChannelState) → set_by (example.buffer_of 2) state e ≡ None)
IsPlain t Idle = ⊥

at-plain : (window t : ℕ) (a : Action) → slice_get (plain_start window).session t ≡ Some a → IsPlain t a
at-plain window t a e = so-at IsPlain (plain_start window).session t a ((refl, refl), ((refl, refl, refl), ((refl, refl), ((λ low control. absurd cc, λ state. refl), tt)))) e

plain-last : (window : ℕ) → NoneSetsWithin (plain_start window).loop.limits (plain_start window).loop.settings (journal (plain_start window).loop (take 2 (plain_start window).session)) (events (plain_start window).loop (drop 2 (plain_start window).session))
unfolding run_within some_of_first passed_on no_limits
plain-last window zero e h = let q : Frame example.unlock ≡ e = cc in rw (← q) refl
plain-last window (suc i) e h = absurd cc

plain-in-order : (window : ℕ) → KeepOrder (plain_start window).session
plain-in-order window = record {
  arrives = λ t i s e. let p = at-plain window t (Arrive i s) e in rw (p.0, p.1, p.2) (omega arith, refl);
  hears = λ t m e. let p = at-plain window t (Hear m) e in omega (arith, p.0, p.1);
  frames_in_order = λ t u i j s r order e f. let p = at-plain window t (Arrive i s) e in let q = at-plain window u (Arrive j r) f in omega (arith, p.2, q.2);
  reports_in_order = λ t u m n order e f. let p = at-plain window t (Hear m) e in let q = at-plain window u (Hear n) f in omega (arith, p.1, q.1);
}

pub each-window : (window : ℕ) → window < 256 → IsStart (plain_start window)
unfolding run_within some_of_first clcw_within
each-window window low = record {
  window = low;
  directive = refl;
  numbered = λ i. let n = numbered i in record { whole = n.whole; bypass = n.bypass; control = n.control; ns = n.ns };
  allowed = allowed-2;
  lawful = plain-lawful window;
  obeyed = (0, refl, refl);
  again = (omega arith, (0, refl, refl));
  last = plain-last window;
  believes = (2, refl, omega arith);
  stops = λ t u j e before f. let p = at-plain window t (Send j) e in let q = at-plain window u (Send 1) f in absurd (omega (arith, p.1, before));
  asks = λ t e. let p = at-plain window t (Send 1) e in omega (arith, p.0);
  sends = λ t i e. let p = at-plain window t (Send ((plain_start window).directive + 1 + i)) e in absurd (omega (arith, p.1));
  links = plain-in-order window;
  others = λ t e h. let p = at-plain window t (Other e) h in (p.0, p.1 (receiver (plain_start window).loop (take t (plain_start window).session)));
}

-- ---- the earlier session: it is one of a loop, and none of its CLCWs can have the number 9

abbrev IsBefore : ℕ → Action → Type 0
IsBefore t (Send i) = (t ≡ 0) × (i ≡ 0)
IsBefore t (Arrive i s) = (t ≡ 1) × (i ≡ 0) × (s ≡ 0)
IsBefore t (Hear m) = (t ≡ 3) × (m ≡ 0)
IsBefore t (Other e) = ⊥
IsBefore t Idle = Unit {0}

at-before : (t : ℕ) (a : Action) → slice_get (session_before learnt_by_9) t ≡ Some a → IsBefore t a
at-before t a e = so-at IsBefore (session_before learnt_by_9) t a ((refl, refl), ((refl, refl, refl), (tt, ((refl, refl), tt)))) e

before-in-order : KeepOrder (session_before learnt_by_9)
before-in-order = record {
  arrives = λ t i s e. let p = at-before t (Arrive i s) e in rw (p.0, p.1, p.2) (omega arith, refl);
  hears = λ t m e. let p = at-before t (Hear m) e in grind arith;
  frames_in_order = λ t u i j s r order e f. let p = at-before t (Arrive i s) e in let q = at-before u (Arrive j r) f in grind arith;
  reports_in_order = λ t u m n order e f. let p = at-before t (Hear m) e in let q = at-before u (Hear n) f in grind arith;
}

before-sends : (t i : ℕ) → IsBefore t (Send i) → (known (era_before learnt_by_9 0 5 (smallest 0)) (session_before learnt_by_9) t ≤ i) × (i < known (era_before learnt_by_9 0 5 (smallest 0)) (session_before learnt_by_9) t + 5)
before-sends t i p = rw (p.0, p.1) (omega arith, omega arith)

before-lawful : IsLawfulWithin learnt_by_9.loop.limits learnt_by_9.loop.settings (Frame (smallest 0 0) ∷ [])
unfolding IsLawfulWithin some_of_first
before-lawful = ((whole-0, refl), tt)

before-last : NoneSetsWithin learnt_by_9.loop.limits learnt_by_9.loop.settings [] (Frame (smallest 0 0) ∷ [])
unfolding run_within some_of_first
before-last zero e h = let q : Frame (smallest 0 0) ≡ e = cc in rw (← q) refl
before-last (suc i) e h = absurd cc

pub before-loop : IsLoop (era_before learnt_by_9 0 5 (smallest 0)) (session_before learnt_by_9)
before-loop = record {
  window = omega arith;
  numbered = λ i. record { whole = smallest-whole 0 i; bypass = refl; control = refl; ns = refl };
  allowed = allowed-2;
  lawful = before-lawful;
  era = record { parts = refl; starts = inl (refl, refl); last = before-last };
  possible = record {
    sends = λ t i e. before-sends t i (at-before t (Send i) e);
    links = before-in-order;
    others = λ t e h. absurd (at-before t (Other e) h);
  };
}

pub another : NamesAnother learnt_by_9 0 5 (smallest 0) 2
another a low high e = let one : begun (session_before learnt_by_9) 4 ≡ 1 = refl in absurd (omega arith)

-- Set V(R) may name the number of a frame that is known to be accepted, but not the number of the next frame.
pub known-named : NamesAnother (acknowledged 0) 0 5 (smallest 0) 3
unfolding run_within some_of_first clcw_within
known-named a low high e =
    let known_one : known (era_before (acknowledged 0) 0 5 (smallest 0)) (session_before (acknowledged 0)) 3 ≡ 1 = refl in
    let one : begun (session_before (acknowledged 0)) 4 ≡ 1 = refl in
    absurd (omega arith)

pub next-not-another : NamesAnother (acknowledged 1) 0 5 (smallest 0) 3 → ⊥
unfolding run_within some_of_first clcw_within
next-not-another another = another 1 (omega arith) (omega arith) refl

pub trap-not-another : NamesAnother trap 0 5 (smallest 0) 2 → ⊥
trap-not-another another = another 0 (omega arith) (omega arith) refl
