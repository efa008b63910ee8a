-- If the window is no wider than half the receiver's, no frame of a loop lies outside the receiver's window, so the
-- receiver is never locked out.
use Rattle.tc_laws.proofs.LoopsLemmas.Names.{Action, Ahead, Arrive, Behind, Bool, ChannelState, Command, E10, E5, Event, Expected, Frame, IsLoop, IsOther, List, Loop, None, Option, Other, Outside, Place, Release, Report, Row, S3, SetVr, Settings, Some, State, Unlock, [], accepted, ahead, ap, arith, behind, command_of, control_kind, entry_at, eq-eqb, false, field_of, frame_row, has_room, header_of, inl, inr, kind_by, passed_on, place_of, receiver, refl, row_at, row_of, slice_get, step, suc, take, true, unwrap_or, zero, ℕ, ◌%◌, ◌+◌, ◌-◌, ◌/◌, ◌<◌, ◌≡◌, ◌≢◌, ◌≤◌, cases_order}
use Rattle.tc_laws.proofs.LoopsLemmas.Actions.{take-none}
use Rattle.tc_laws.proofs.LoopsLemmas.Counted.{one-at, vr-at, near-at}

-- let V(R) be the number of frame c: if frame i is at most half a window before frame c, and less than half a window
-- after it, the number of frame i isn't outside the window
within : (width x c i k : ℕ) → width ≤ 254 → k ≤ width / 2 → c ≤ i + k → i < c + k → place_of width ((x + c) % 256) ((x + i) % 256) ≢ Outside
within width x c i k most half old new e = elim (cases_order i c) [
  | inl same ↦ let q : place_of width ((x + c) % 256) ((x + i) % 256) ≡ Expected = rw (eq-eqb ((x + i) % 256) ((x + c) % 256) (ap (λ n. (x + n) % 256) same)) refl in cc
  | inr (inl below) ↦ let q = behind width ((x + c) % 256) ((x + i) % 256) (256 - (c - i)) (omega arith) (omega arith) (omega arith) (omega arith) (omega arith) (omega arith) in cc
  | inr (inr above) ↦ let q = ahead width ((x + c) % 256) ((x + i) % 256) (i - c) (omega arith) (omega arith) (omega arith) (omega arith) (omega arith) in cc
]

outside-row : (place : Place) (room : Bool) → row_at place room ≡ E5 → place ≡ Outside
outside-row Expected true e = absurd cc
outside-row Expected false e = absurd cc
outside-row Ahead room e = absurd cc
outside-row Behind room e = absurd cc
outside-row Outside room e = refl

-- the frame is a Type-AD frame outside the window, which is the only kind of frame in row E5
record IsOutside (width vr ns : ℕ) (bypass control : Bool) : Type 0 where
  is_ad : (bypass ≡ false) × (control ≡ false)
  place : place_of width vr ns ≡ Outside

no_command : (o : Option Command) (width vr : ℕ) (room : Bool) → frame_row width vr (control_kind o) room ≢ E5
no_command None width vr room e = cc
no_command (Some Unlock) width vr room e = cc
no_command (Some (SetVr x)) width vr room e = cc

outside-at_E5 : (width vr ns : ℕ) (bypass control room : Bool) (field : List ℕ) → frame_row width vr (kind_by bypass control ns field) room ≡ E5 → IsOutside width vr ns bypass control
outside-at_E5 width vr ns false false room field e = record { is_ad = (refl, refl); place = outside-row (place_of width vr ns) room e }
outside-at_E5 width vr ns true true room field e = absurd (no_command (command_of field) width vr room e)
outside-at_E5 width vr ns _ _ room field e = absurd cc

-- only row E5 locks out a receiver that isn't locked out
open-after : (row : Row) (st : State) (r : Report) → row ≢ E5 → r.state ≡ st → st ≢ S3 → (unwrap_or (entry_at row st r) r).state ≢ S3
open-after E5 st r other s free e = other refl
open-after row S3 r other s free e = free refl
open-after row _ r other s free e = cc

-- the event isn't a frame in row E5
abbrev IsInside : Settings → ChannelState → Event → Type 0
IsInside c b (Frame octets) = row_of c b octets ≢ E5
IsInside c b _ = Unit {0}

step-open : (c : Settings) (b : ChannelState) (e : Event) → IsInside c b e → b.report.state ≢ S3 → (step c b e).report.state ≢ S3
unfolding passed_on
step-open c b (Frame octets) inside free = open-after (row_of c b octets) b.report.state b.report inside refl free
step-open c b Release inside free = open-after E10 b.report.state b.report (λ e. cc) refl free
step-open c b _ inside free = free

other-inside : (c : Settings) (b : ChannelState) (e : Event) → IsOther e → IsInside c b e
other-inside c b (Frame octets) other = λ e.
    let h = header_of octets in
    let is = outside-at_E5 c.width b.report.vr h.ns h.bypass h.control (has_room c b) (field_of octets) e in
    other is.is_ad.0 is.is_ad.1
other-inside c b _ other = tt

pub place-inside : (l : Loop) (session : List Action) (t i s : ℕ) → IsLoop l session → l.window ≤ l.settings.width / 2 → slice_get session t ≡ Some (Arrive i s)
    → place_of l.settings.width (receiver l (take t session)).report.vr (header_of (l.frames i)).ns ≢ Outside
place-inside l session t i s k half here =
    let n = near-at l session t i s k here in
    rw (vr-at l session t k, (k.numbered i).ns) (within l.settings.width l.first (accepted l (take t session)) i l.window k.allowed.width.most half n.0 n.1)

sent-inside : (l : Loop) (session : List Action) (t i s : ℕ) → IsLoop l session → l.window ≤ l.settings.width / 2 → slice_get session t ≡ Some (Arrive i s)
    → IsInside l.settings (receiver l (take t session)) (Frame (l.frames i))
sent-inside l session t i s k half here = λ e.
    let h = header_of (l.frames i) in
    let b = receiver l (take t session) in
    let is = outside-at_E5 l.settings.width b.report.vr h.ns h.bypass h.control (has_room l.settings b) (field_of (l.frames i)) e in
    place-inside l session t i s k half here is.place

pub stays-open : (l : Loop) (session : List Action) (t : ℕ) → IsLoop l session → l.window ≤ l.settings.width / 2 → (receiver l []).report.state ≢ S3 → (receiver l (take t session)).report.state ≢ S3
stays-open l session zero k half free = free
stays-open l session (suc t) k half free = by (slice_get session t) refl (stays-open l session t k half free) where
  by : (o : Option Action) → slice_get session t ≡ o → (receiver l (take t session)).report.state ≢ S3 → (receiver l (take (suc t) session)).report.state ≢ S3
  by None none before = rw (take-none session t none) before
  by (Some (Arrive i s)) here before = rw (one-at l session t (Arrive i s) here)
      (step-open l.settings (receiver l (take t session)) (Frame (l.frames i)) (sent-inside l session t i s k half here) before)
  by (Some (Other e)) here before = rw (one-at l session t (Other e) here)
      (step-open l.settings (receiver l (take t session)) e (other-inside l.settings (receiver l (take t session)) e (k.possible.others t e here)) before)
  by (Some a) here before = rw (one-at l session t a here) before
