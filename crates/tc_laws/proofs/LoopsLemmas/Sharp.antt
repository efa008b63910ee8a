-- If the sender's window is wider by one than half the receiver's, the receiver can be locked out.
use Rattle.tc_laws.proofs.LoopsLemmas.Names.{Action, Arrive, Bool, ChannelState, E5, Frame, IsAllowed, IsLoop, IsSome, Link, List, LocksOut, Loop, None, Outside, Report, Row, S1, S3, Send, Settings, Some, State, [], after_frame, ap, arith, entry, false, field_of, frame_row, has_room, header_of, inl, inr, kind_by, known, known_from, last_of, length, new_loop, outside, place_of, receiver, refl, row_of, run_within, sends, set_at, slice_get, subst, suc, true, zero, ℕ, ◌%◌, ◌+◌, ◌/◌, ◌<◌, ◌∙◌, ◌∷◌, ◌≡◌, ◌≢◌, ◌≤◌, length_push}
use Rattle.tc_laws.proofs.LoopsLemmas.Actions.{known-append}
use Rattle.tc_laws.proofs.LoopsLemmas.Counted.{one-more}
use Rattle.tc_laws.proofs.LoopsLemmas.Longer.{get-end, get-last, IsNext, longer-event, longer-quiet}
use Rattle.tc_laws.proofs.LoopsLemmas.Onward.{whole}
use Rattle.tc_laws.proofs.LoopsLemmas.Begun.{begins-so}

sends-length : (n : ℕ) → length (sends n) ≡ n
sends-length zero = refl
sends-length (suc n) = let p = sends-length n in omega (arith, length_push (sends n) (Send n))

-- a sender that hears no CLCW knows of no accepted frame
known-none : (l : Loop) (session : List Action) (n : ℕ) → known_from l session 0 (sends n) ≡ 0
known-none l session zero = refl
known-none l session (suc n) = known-append l session 0 (sends n) (Send n ∷ []) ∙ known-none l session n

known-now : (l : Loop) (n : ℕ) → known l (sends n) (length (sends n)) ≡ 0
known-now l n = ap (known_from l (sends n) 0) (whole (sends n)) ∙ known-none l (sends n) n

-- no action of a sender that only sends is an arrival
none-arrived : (n t i s : ℕ) → slice_get (sends n) t ≢ Some (Arrive i s)
none-arrived zero t i s here = cc
none-arrived (suc n) t i s here = elim (get-end (sends n) (Send n) t (Arrive i s) here) [
  | inl p ↦ none-arrived n t i s p.0
  | inr p ↦ let q = p.1 in cc
]

sent-next : (l : Loop) (n : ℕ) → n < l.window → IsNext l (sends n) (Send n)
sent-next l n low = let none = known-now l n in (omega arith, omega arith)

sent-loop : (l : Loop) (n : ℕ) → IsLoop l [] → n ≤ l.window → IsLoop l (sends n)
sent-loop l zero k low = k
sent-loop l (suc n) k low = let before = sent-loop l n k (omega arith) in longer-quiet l (sends n) (Send n) before (sent-next l n (omega arith)) refl

sent-quiet : (l : Loop) (n : ℕ) → receiver l (sends n) ≡ receiver l []
sent-quiet l zero = refl
sent-quiet l (suc n) = one-more l (sends n) (Send n) ∙ sent-quiet l n

-- the last frame that was sent is frame n
sent-last : (n : ℕ) → slice_get (sends (n + 1)) n ≡ Some (Send n)
sent-last n =
    let e : suc n ≡ n + 1 = omega arith in
    let last : slice_get (sends (suc n)) n ≡ Some (Send n) = subst (λ m. slice_get (sends (suc n)) m ≡ Some (Send n)) (sends-length n) (get-last (sends n) (Send n)) in
    subst (λ m. slice_get (sends m) n ≡ Some (Send n)) e last

outside-row : (width vr ns : ℕ) (bypass control room : Bool) (field : List ℕ) → bypass ≡ false → control ≡ false → place_of width vr ns ≡ Outside → frame_row width vr (kind_by bypass control ns field) room ≡ E5
outside-row width vr ns false false room field b c e = rw e refl
outside-row width vr ns true control room field b c e = absurd cc
outside-row width vr ns false true room field b c e = absurd cc

enters : (row : Row) (r : Report) → row ≡ E5 → r.state ≡ S1 → IsSome (entry row r)
enters row r e s = rw (e, s) refl

sets-none : (row : Row) (st : State) → row ≡ E5 → set_at row st ≡ None
sets-none row st e = rw e refl

locks : (row : Row) (octets : List ℕ) (b : ChannelState) → row ≡ E5 → b.report.state ≡ S1 → (after_frame row octets b).report.state ≡ S3
locks row octets b e s = rw (e, s) refl

first-state : (limits : ℕ → ℕ) (s : Settings) (links : ℕ → Link) (window : ℕ) → ((receiver (new_loop limits s links window) []).report.state ≡ S1) × ((receiver (new_loop limits s links window) []).report.vr ≡ s.first)
unfolding run_within
first-state limits s links window = (refl, refl)

pub locks-out : (limits : ℕ → ℕ) (s : Settings) (links : ℕ → Link) → IsAllowed s → LocksOut (new_loop limits s links (s.width / 2 + 1)) (last_of (s.width / 2))
locks-out limits s links allowed =
    let n = s.width / 2 in
    let l = new_loop limits s links (n + 1) in
    let first = allowed.first in
    let session = sends (n + 1) in
    let k : IsLoop l session = sent-loop l (n + 1) (begins-so limits s links (n + 1) allowed (omega arith)) (omega arith) in
    let b = receiver l session in
    let at : b ≡ receiver l [] = sent-quiet l (n + 1) in
    let state : b.report.state ≡ S1 = ap (λ (c : ChannelState). c.report.state) at ∙ (first-state limits s links (n + 1)).0 in
    let vr : b.report.vr ≡ s.first = ap (λ (c : ChannelState). c.report.vr) at ∙ (first-state limits s links (n + 1)).1 in
    let octets = l.frames n in
    let h = header_of octets in
    let number = k.numbered n in
    let far : place_of s.width s.first ((s.first + n) % 256) ≡ Outside = outside s.width s.first ((s.first + n) % 256) n first (omega arith) refl (omega arith) (omega arith) (omega arith) in
    let place : place_of s.width b.report.vr h.ns ≡ Outside = rw vr far in
    let row : row_of s b octets ≡ E5 = outside-row s.width b.report.vr h.ns h.bypass h.control (has_room s b) (field_of octets) number.bypass number.control place in
    let action = Arrive n n in
    let next : IsNext l session action = (sent-last n, λ t i r here. absurd (none-arrived (n + 1) t i r here)) in
    let is = one-more l session action in
    record {
      loop = longer-event l session action (Frame octets) k next refl (number.whole, enters (row_of s b octets) b.report row state) (sets-none (row_of s b octets) b.report.state row);
      locked = ap (λ (c : ChannelState). c.report.state) is ∙ locks (row_of s b octets) octets b row state;
    }
