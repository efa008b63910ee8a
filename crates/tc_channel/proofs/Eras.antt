-- Frames that are accepted in an era have consecutive numbers.
use Rattle.tc_channel.proofs.Names.{◌≡◌, ◌≢◌, ℕ, zero, suc, ◌+◌, ◌-◌, ◌%◌, Bool, true, false, cond, List, [], ◌∷◌, ◌++◌, length, take, drop, Option, Some, None, refl, sym, ap, subst, ◌∙◌, inl, inr, arith, append_assoc, slice_get, unwrap_or, append-nil, length-append, length-drop, eqb_tells, Report, State, S1, S2, S3, Unlock, SetVr, Ahead, Behind, Outside, command_of, control_kind, kind_by, Row, E1, E6, E8, E10, row_at, frame_row, entry_at, accepts, Settings, Event, Frame, Release, Take, TakeUnit, ChannelState, Accepted, has_room, step, row_of, kept, after_frame, run_from, IsLawfulWithin, IsAllowed, Command, header_of, passed_on, run_within}
use Rattle.tc_channel.specs.Era.{IsEraWithin, ComesFromWithin, set_at, set_by, StartsWithin, NoneSetsWithin, accepted_since_within, CountsUpWithin, CountsUpInItsEraWithin, IsOfSender}
use Rattle.std.proofs.Math.Seq.{drop-append_seam}
use Rattle.tc_link.specs.Farm.{accepts_at}
use Rattle.tc_link.specs.Window.{is_ahead, is_behind}
use Rattle.tc_channel.proofs.Filled.{AreFilled, IsFilled, state-filled}
use Rattle.tc_channel.proofs.Small.{vr-below}
use Rattle.tc_channel.proofs.Runs.{run-append, run-push, from-first}
use Rattle.tc_queues.proofs.Lists.{all-drop}

-- P holds for each frame and its place in the list, which is counted from n on
abbrev AreSo : (ℕ → Accepted → Type 0) → ℕ → List Accepted → Type 0
AreSo P n [] = Unit {0}
AreSo P n (a ∷ accepted) = P n a × AreSo P (n + 1) accepted

AreSo-append : (P : ℕ → Accepted → Type 0) (n : ℕ) (xs ys : List Accepted) → AreSo P n xs → AreSo P (n + length xs) ys → AreSo P n (xs ++ ys)
AreSo-append P n [] ys h k = subst (λ m. AreSo P m ys) (omega arith) k
AreSo-append P n (a ∷ xs) ys h k = (h.0, AreSo-append P (n + 1) xs ys h.1 (subst (λ m. AreSo P m ys) (omega arith) k))

-- if this event is a frame of Type-AD with N(S) x + n modulo 256, P holds for n and the frame
abbrev IsTakenSo : (ℕ → Accepted → Type 0) → ℕ → ℕ → Event → Type 0
IsTakenSo P x n (Frame octets) = (header_of octets).bypass ≡ false → (header_of octets).control ≡ false → (header_of octets).ns % 256 ≡ (x + n) % 256 → P n (record { ns = (header_of octets).ns; field = drop 5 octets })
IsTakenSo P x n _ = Unit {0}

-- a frame that isn't expected is never in row E1
unexpected : (ahead behind room : Bool) → row_at (cond ahead Ahead (cond behind Behind Outside)) room ≢ E1
unexpected true behind room e = cc
unexpected false true room e = cc
unexpected false false room e = cc

no_command : (o : Option Command) (width vr : ℕ) (room : Bool) → frame_row width vr (control_kind o) room ≢ E1
no_command None width vr room e = cc
no_command (Some Unlock) width vr room e = cc
no_command (Some (SetVr x)) width vr room e = cc

pub number-at_E1 : (width vr ns : ℕ) (bypass control room : Bool) (field : List ℕ) → frame_row width vr (kind_by bypass control ns field) room ≡ E1 → ns ≡ vr
number-at_E1 width vr ns false false room field e =
    elim (eqb_tells ns vr) [
      | inl same ↦ same.1
      | inr other ↦ absurd (unexpected (is_ahead width vr ns) (is_behind width vr ns) room (rw other.0 at e))
    ]
number-at_E1 width vr ns true true room field e = absurd (no_command (command_of field) width vr room e)
number-at_E1 width vr ns _ _ room field e = absurd cc

pub flags-at_E1 : (width vr ns : ℕ) (bypass control room : Bool) (field : List ℕ) → frame_row width vr (kind_by bypass control ns field) room ≡ E1 → (bypass ≡ false) × (control ≡ false)
flags-at_E1 width vr ns false false room field e = (refl, refl)
flags-at_E1 width vr ns true true room field e = absurd (no_command (command_of field) width vr room e)
flags-at_E1 width vr ns _ _ room field e = absurd cc

abbrev Left : Row → State → Report → Report
Left row st r = unwrap_or (entry_at row st r) r

vr-kept : (row : Row) (st : State) (r : Report) → set_at row st ≡ None → (row ≡ E1 → st ≢ S1) → (Left row st r).vr ≡ r.vr
vr-kept E1 S1 r none other = absurd (other refl refl)
vr-kept (E8 x) S1 r none other = absurd cc
vr-kept (E8 x) S2 r none other = absurd cc
vr-kept row S1 r none other = refl
vr-kept _ _ r none other = refl

pub accepted-kept : (row : Row) (accepted : Bool) (octets : List ℕ) (b : ChannelState) → (row ≡ E1 → accepted ≢ true) → (kept row accepted octets b).accepted ≡ b.accepted
unfolding passed_on
accepted-kept E1 true octets b other = absurd (other refl refl)
accepted-kept E6 true octets b other = refl
accepted-kept _ _ octets b other = refl

pub only_S1 : (row : Row) (st : State) → (row ≡ E1 → st ≢ S1) → row ≡ E1 → accepts_at row st ≢ true
only_S1 row S1 h e t = h e refl
only_S1 row S2 h e t = let q : accepts_at E1 S2 ≡ true = rw e at t in cc
only_S1 row S3 h e t = let q : accepts_at E1 S3 ≡ true = rw e at t in cc

-- no event of a run is a Set V(R) that is obeyed
abbrev NoneSetsFrom : Settings → ChannelState → List Event → Type 0
NoneSetsFrom c b es = (i : ℕ) (e : Event) → slice_get es i ≡ Some e → set_by c (run_from c b (take i es)) e ≡ None

set-sets : (row : Row) (st : State) (r : Report) (x : ℕ) → set_at row st ≡ Some x → (Left row st r).vr ≡ x
set-sets (E8 n) S1 r x e = cc
set-sets (E8 n) S2 r x e = cc
set-sets _ _ r x e = absurd cc

starts-at : (limits : ℕ → ℕ) (c : Settings) (before : List Event) (x : ℕ) → StartsWithin limits c before x → (run_within limits c before).report.vr ≡ x
unfolding run_within
starts-at limits c before x (inl empty) = rw (empty.0, empty.1) refl
starts-at limits c before x (inr set) = rw (set.2, run-push limits c set.0 set.1) (by set.1 set.3) where
  by : (e : Event) → set_by c (run_within limits c set.0) e ≡ Some x → (step c (run_within limits c set.0) e).report.vr ≡ x
  by (Frame octets) h = set-sets (row_of c (run_within limits c set.0) octets) (run_within limits c set.0).report.state (run_within limits c set.0).report x h
  by Release h = absurd cc
  by (Take apid) h = absurd cc
  by (TakeUnit map_id) h = absurd cc

-- frame `n` has N(S) `x + n` modulo 256
abbrev Counts : ℕ → ℕ → Accepted → Type 0
Counts x n a = a.ns % 256 ≡ (x + n) % 256

all-count : (x n : ℕ) (e : Event) → IsTakenSo (Counts x) x n e
all-count x n (Frame octets) = λ _ _ is. is
all-count x n _ = tt

-- If the frames of a list count up from `x + n` modulo 256, and their numbers are below 256, frame `i` of the list has
-- N(S) `x + (n + i)` modulo 256.
numbers-are : (x n : ℕ) (xs : List Accepted) → AreSo (Counts x) n xs → AreFilled xs → (i : ℕ) (a : Accepted) → slice_get xs i ≡ Some a → a.ns ≡ (x + (n + i)) % 256
numbers-are x n [] h filled i a e = absurd cc
numbers-are x n (b ∷ xs) h filled zero a e = let q : b ≡ a = cc in rw (← q) (let m = h.0 in let f = filled.0.1 in omega arith)
numbers-are x n (b ∷ xs) h filled (suc i) a e = numbers-are x (n + 1) xs h.1 filled.1 i a e ∙ ap (λ m. (x + m) % 256) (omega arith)

-- The state `later` has the accepted frames of `b`, and possibly more. P holds for each additional frame and its place,
-- which is counted from `n` on. Modulo 256, V(R) is `x` plus the place after the last one.
record GoesOn (P : ℕ → Accepted → Type 0) (x n : ℕ) (b later : ChannelState) : Type 0 where
  more : List Accepted
  grown : later.accepted ≡ b.accepted ++ more
  each : AreSo P n more
  vr : later.report.vr % 256 ≡ (x + (n + length more)) % 256

quiet : (P : ℕ → Accepted → Type 0) (x n : ℕ) (b later : ChannelState) → b.report.vr % 256 ≡ (x + n) % 256 → later.accepted ≡ b.accepted → later.report.vr ≡ b.report.vr → GoesOn P x n b later
quiet P x n b later v same vr = record { more = []; grown = same ∙ sym (append-nil b.accepted); each = tt; vr = rw vr (omega arith) }

other-goes-on : (P : ℕ → Accepted → Type 0) (x n : ℕ) (b : ChannelState) (octets : List ℕ) (row : Row) → b.report.vr % 256 ≡ (x + n) % 256 → (row ≡ E1 → b.report.state ≢ S1) → set_at row b.report.state ≡ None
    → GoesOn P x n b (after_frame row octets b)
other-goes-on P x n b octets row v other none =
    quiet P x n b (after_frame row octets b) v
    (accepted-kept row (accepts row b.report) octets b (only_S1 row b.report.state other))
    (vr-kept row b.report.state b.report none other)

frame-goes-on : (c : Settings) (P : ℕ → Accepted → Type 0) (x n : ℕ) (b : ChannelState) (octets : List ℕ) (row : Row) (st : State) → row_of c b octets ≡ row → b.report.state ≡ st → set_at row st ≡ None
    → b.report.vr % 256 ≡ (x + n) % 256 → IsTakenSo P x n (Frame octets) → GoesOn P x n b (after_frame row octets b)
frame-goes-on c P x n b octets E1 S1 e s none v from =
    let h = header_of octets in
    let flags = flags-at_E1 c.width b.report.vr h.ns h.bypass h.control (has_room c b) (drop 5 octets) e in
    let ns : h.ns ≡ b.report.vr = number-at_E1 c.width b.report.vr h.ns h.bypass h.control (has_room c b) (drop 5 octets) e in
    rw s (record {
      more = record { ns = h.ns; field = drop 5 octets } ∷ [];
      grown = refl;
      each = (from flags.0 flags.1 (ap (λ m. m % 256) ns ∙ v), tt);
      vr = omega arith;
    })
frame-goes-on c P x n b octets E1 st e s none v from = other-goes-on P x n b octets E1 v (λ _ q. cc (s, q)) (subst (λ (t : State). set_at E1 t ≡ None) (sym s) none)
frame-goes-on c P x n b octets row st e s none v from = other-goes-on P x n b octets row v (λ q. absurd cc) (subst (λ (t : State). set_at row t ≡ None) (sym s) none)

step-goes-on : (c : Settings) (P : ℕ → Accepted → Type 0) (x n : ℕ) (b : ChannelState) (e : Event) → set_by c b e ≡ None → b.report.vr % 256 ≡ (x + n) % 256 → IsTakenSo P x n e → GoesOn P x n b (step c b e)
unfolding passed_on
step-goes-on c P x n b (Frame octets) none v from = frame-goes-on c P x n b octets (row_of c b octets) b.report.state refl refl none v from
step-goes-on c P x n b Release none v from = quiet P x n b (step c b Release) v refl (vr-kept E10 b.report.state b.report refl (λ q. absurd cc))
step-goes-on c P x n b (Take apid) none v from = quiet P x n b (step c b (Take apid)) v refl refl
step-goes-on c P x n b (TakeUnit map_id) none v from = quiet P x n b (step c b (TakeUnit map_id)) v refl refl

GoesOn-then : (P : ℕ → Accepted → Type 0) (x n : ℕ) (b mid later : ChannelState) (p : GoesOn P x n b mid) → GoesOn P x (n + length p.more) mid later → GoesOn P x n b later
GoesOn-then P x n b mid later p q = record {
  more = p.more ++ q.more;
  grown = q.grown ∙ rw p.grown (append_assoc b.accepted p.more q.more);
  each = AreSo-append P n p.more q.more p.each q.each;
  vr = let l = length-append p.more q.more in let v = q.vr in omega arith;
}

run_from-goes-on : (c : Settings) (P : ℕ → Accepted → Type 0) (x base n : ℕ) (b : ChannelState) (es : List Event) → NoneSetsFrom c b es → b.report.vr % 256 ≡ (x + n) % 256 → length b.accepted ≡ base + n
    → ((place : ℕ) (e : Event) → slice_get es place ≡ Some e → IsTakenSo P x (length (run_from c b (take place es)).accepted - base) e) → GoesOn P x n b (run_from c b es)
run_from-goes-on c P x base n b [] none v len from = quiet P x n b b v refl refl
run_from-goes-on c P x base n b (e ∷ es) none v len from =
    let first : IsTakenSo P x n e = subst (λ m. IsTakenSo P x m e) (omega arith) (from 0 e refl) in
    let one = step-goes-on c P x n b e (none 0 e refl) v first in
    let longer : length (step c b e).accepted ≡ base + (n + length one.more) = rw one.grown (let l = length-append b.accepted one.more in omega arith) in
    GoesOn-then P x n b (step c b e) (run_from c (step c b e) es) one
    (run_from-goes-on c P x base (n + length one.more) (step c b e) es (λ i later q. none (suc i) later q) one.vr longer (λ place later q. from (suc place) later q))

none-from : (limits : ℕ → ℕ) (c : Settings) (before later : List Event) → NoneSetsWithin limits c before later → NoneSetsFrom c (run_within limits c before) later
none-from limits c before later none = λ i e q. rw (sym (run-append limits c before (take i later))) (none i e q)

pub era-law : (limits : ℕ → ℕ) (c : Settings) (journal : List Event) → IsAllowed c → IsLawfulWithin limits c journal → CountsUpInItsEraWithin limits c journal
era-law limits c journal allowed lawful = λ before later x era.
    let start = starts-at limits c before x era.starts in
    let whole : run_within limits c journal ≡ run_from c (run_within limits c before) later = ap (run_within limits c) era.parts ∙ run-append limits c before later in
    let base = length (run_within limits c before).accepted in
    let run-on = run_from-goes-on c (Counts x) x base 0 (run_within limits c before) later (none-from limits c before later era.last) (rw start (omega arith)) (omega arith) (λ place e q. all-count x _ e) in
    let since : accepted_since_within limits c before journal ≡ run-on.more = rw (whole, run-on.grown) (drop-append_seam (run_within limits c before).accepted run-on.more) in
    let numbers : AreSo (Counts x) 0 (accepted_since_within limits c before journal) = rw since run-on.each in
    let vr : (run_within limits c journal).report.vr % 256 ≡ (x + length (accepted_since_within limits c before journal)) % 256 = rw (since, whole) (run-on.vr ∙ ap (λ m. (x + m) % 256) (omega arith)) in
    let small = vr-below limits c journal allowed.first lawful in
    let counts : CountsUpWithin limits c journal before x = record {
      numbers = λ i a is. numbers-are x 0 (accepted_since_within limits c before journal) numbers (all-drop IsFilled (length (run_within limits c before).accepted) (run_within limits c journal).accepted (state-filled limits c journal lawful)) i a is ∙ ap (λ m. (x + m) % 256) (omega arith);
      vr = omega arith;
    } in
    counts

-- the journal has an era
abbrev pub HasEra : (ℕ → ℕ) → Settings → List Event → Type 0
HasEra limits c journal = (before : List Event) × (later : List Event) × (x : ℕ) × IsEraWithin limits c journal before later x

none-push : (c : Settings) (b : ChannelState) (es : List Event) (e : Event) → NoneSetsFrom c b es → set_by c (run_from c b es) e ≡ None → NoneSetsFrom c b (es ++ e ∷ [])
none-push c b [] e none one zero f q = let same : e ≡ f = cc in rw (← same) one
none-push c b [] e none one (suc i) f q = absurd cc
none-push c b (d ∷ es) e none one zero f q = none 0 f q
none-push c b (d ∷ es) e none one (suc i) f q = none-push c (step c b d) es e (λ k g r. none (suc k) g r) one i f q

none-back : (limits : ℕ → ℕ) (c : Settings) (before later : List Event) → NoneSetsFrom c (run_within limits c before) later → NoneSetsWithin limits c before later
none-back limits c before later none = λ i e q. rw (run-append limits c before (take i later)) (none i e q)

era-push : (limits : ℕ → ℕ) (c : Settings) (journal : List Event) (e : Event) → HasEra limits c journal → HasEra limits c (journal ++ e ∷ [])
era-push limits c journal e has = by (set_by c (run_within limits c journal) e) refl where
  by : (o : Option ℕ) → set_by c (run_within limits c journal) e ≡ o → HasEra limits c (journal ++ e ∷ [])
  by (Some y) is = (journal ++ e ∷ [], [], y, record { parts = sym (append-nil (journal ++ e ∷ [])); starts = inr (journal, e, refl, is); last = λ i f q. absurd cc })
  by None is =
      let era = has.3 in
      let whole : run_within limits c journal ≡ run_from c (run_within limits c has.0) has.1 = ap (run_within limits c) era.parts ∙ run-append limits c has.0 has.1 in (
        has.0,
        has.1 ++ e ∷ [],
        has.2,
        record {
          parts = rw era.parts (append_assoc has.0 has.1 (e ∷ []));
          starts = era.starts;
          last = none-back limits c has.0 (has.1 ++ e ∷ []) (none-push c (run_within limits c has.0) has.1 e (none-from limits c has.0 has.1 era.last) (rw (← whole) is));
        },
      )

pub each-era : (limits : ℕ → ℕ) (c : Settings) (journal : List Event) → HasEra limits c journal
each-era limits c journal = from-first (HasEra limits c) (era-push limits c) [] journal ([], [], c.first, record { parts = refl; starts = inl (refl, refl); last = λ i e q. absurd cc })

-- the data fields that were sent are accepted once and in order

sent-at : (sent : ℕ → List ℕ) (n : ℕ) (xs : List Accepted) → AreSo (λ m b. b.field ≡ sent m) n xs → (i : ℕ) (a : Accepted) → slice_get xs i ≡ Some a → a.field ≡ sent (n + i)
sent-at sent n [] h i a e = absurd cc
sent-at sent n (b ∷ xs) h zero a e = let q : b ≡ a = cc in rw (← q) (h.0 ∙ ap sent (omega arith))
sent-at sent n (b ∷ xs) h (suc i) a e = sent-at sent (n + 1) xs h.1 i a e ∙ ap sent (omega arith)

-- if a frame of the sender comes after `n` accepted ones, and has N(S) `x + n` modulo 256, its data field is `sent n`
sender-so : (sent : ℕ → List ℕ) (x n : ℕ) (e : Event) → IsOfSender x sent n e → IsTakenSo (λ m a. a.field ≡ sent m) x n e
sender-so sent x n (Frame octets) from = λ bypass control v.
    let is = from bypass control in is.field ∙ ap sent (let a = is.ns in let o = is.not_old in let w = is.not_new in omega arith)
sender-so sent x n _ from = tt

pub all-sent : (limits : ℕ → ℕ) (c : Settings) (journal before later : List Event) (x : ℕ) (sent : ℕ → List ℕ) → IsEraWithin limits c journal before later x → ComesFromWithin limits c before later x sent
    → (i : ℕ) (a : Accepted) → slice_get (accepted_since_within limits c before journal) i ≡ Some a → a.field ≡ sent i
all-sent limits c journal before later x sent era comes i a is =
    let start = starts-at limits c before x era.starts in
    let whole : run_within limits c journal ≡ run_from c (run_within limits c before) later = ap (run_within limits c) era.parts ∙ run-append limits c before later in
    let base = length (run_within limits c before).accepted in
    let from : (place : ℕ) (e : Event) → slice_get later place ≡ Some e → IsOfSender x sent (length (run_from c (run_within limits c before) (take place later)).accepted - base) e =
    λ place e q. subst (λ m. IsOfSender x sent m e) (length-drop base (run_within limits c (before ++ take place later)).accepted ∙ ap (λ (b : ChannelState). length b.accepted - base) (run-append limits c before (take place later))) (comes place e q) in
    let run-on = run_from-goes-on c (λ m a. a.field ≡ sent m) x base 0 (run_within limits c before) later (none-from limits c before later era.last) (rw start (omega arith)) (omega arith) (λ place e q. sender-so sent x _ e (from place e q)) in
    let since : accepted_since_within limits c before journal ≡ run-on.more = rw (whole, run-on.grown) (drop-append_seam (run_within limits c before).accepted run-on.more) in
    sent-at sent 0 run-on.more run-on.each i a (rw since at is) ∙ ap sent (omega arith)
