-- Each session of a loop can be continued by a round, and by any number of rounds.
use Rattle.tc_laws.proofs.LoopsLemmas.Names.{Accepted, Action, Arrive, Bool, ChannelState, E1, Frame, GoesOn, Hear, IsLoop, IsSome, IsSound, List, Loop, None, Other, Release, Report, Row, S1, S2, S3, Send, Settings, Some, State, [], accepted, after_frame, after_release, ap, append-nil, append_assoc, arith, buffer, drop, entry, eq-eqb, events, false, field_of, frame_row, has_room, header_of, heard, kind_by, known, length, length-drop, length-map, nat_tests, passed_on, receiver, refl, releases, reported, round, row_of, set_at, slice_get, slice_get_within, state-sound, step, subst, suc, sym, take, take_all, true, zero, ℕ, ◌%◌, ◌++◌, ◌+◌, ◌-◌, ◌/◌, ◌<◌, ◌∙◌, ◌∷◌, ◌≡◌, ◌≢◌, ◌≤◌, length_push, take_at, GoesOnBy}
use Rattle.tc_laws.proofs.LoopsLemmas.Window.{heard-right}
use Rattle.tc_laws.proofs.LoopsLemmas.Counted.{one-more, ever-same, ever-more, vr-at, known-so, known-step, reported-so}
use Rattle.tc_laws.proofs.LoopsLemmas.Open.{stays-open}
use Rattle.tc_laws.proofs.LoopsLemmas.Longer.{get-last, known-at, IsNext, longer-event, longer-quiet}

pub whole : (session : List Action) → take (length session) session ≡ session
whole session = take_all (length session) session (omega arith)

pub vr-now : (l : Loop) (session : List Action) → IsLoop l session → (receiver l session).report.vr ≡ (l.first + accepted l session) % 256
vr-now l session k = subst (λ xs. (receiver l xs).report.vr ≡ (l.first + accepted l xs) % 256) (whole session) (vr-at l session (length session) k)

count-same : (l : Loop) (xs ys : List Action) → receiver l ys ≡ receiver l xs → accepted l ys ≡ accepted l xs
count-same l xs ys same = ever-same l xs ys (ap (λ (b : ChannelState). b.accepted) same)

-- ---- releases

buffer-length : (b : ChannelState) → length (buffer b) ≡ length b.accepted - b.released
buffer-length b = omega (arith, length-map {A = Accepted} {B = List ℕ}, length-drop {A = Accepted})

release-buffer : (b : ChannelState) (n : ℕ) → length (buffer b) ≡ suc n → length (buffer (after_release b)) ≡ n
unfolding passed_on
release-buffer b n e = let p = buffer-length b in let q = buffer-length (after_release b) in omega arith

release-accepted : (b : ChannelState) → (after_release b).accepted ≡ b.accepted
unfolding passed_on
release-accepted b = refl

-- after `later`, which is the session and `n` more actions, no data field waits, and no further frame was accepted
abbrev IsEmptied : Loop → List Action → ℕ → List Action → Type 0
IsEmptied l session n later = IsLoop l later × (length (buffer (receiver l later)) ≡ 0) × (accepted l later ≡ accepted l session) × (length later ≡ length session + n)

emptied : (l : Loop) (n : ℕ) (session : List Action) → IsLoop l session → length (buffer (receiver l session)) ≡ n → IsEmptied l session n (session ++ releases n)
emptied l zero session k e = subst (IsEmptied l session 0) (sym (append-nil session)) (k, e, refl, omega arith)
emptied l (suc n) session k e =
    let b = receiver l session in
    let one = session ++ Other Release ∷ [] in
    let waits : b.released < length b.accepted = let p = buffer-length b in omega arith in
    let loop : IsLoop l one = longer-event l session (Other Release) Release k tt refl waits refl in
    let is : receiver l one ≡ after_release b = one-more l session (Other Release) in
    let left : length (buffer (receiver l one)) ≡ n = ap (λ (a : ChannelState). length (buffer a)) is ∙ release-buffer b n e in
    let count : accepted l one ≡ accepted l session = ever-same l session one (ap (λ (a : ChannelState). a.accepted) is ∙ release-accepted b) in
    let (kept, empty, all, many) = emptied l n one loop left in
    subst (IsEmptied l session (suc n)) (append_assoc session (Other Release ∷ []) (releases n)) (kept, empty, all ∙ count, omega (arith, length_push session (Other Release)))

-- ---- a CLCW that the sender hears right after it was made

heard-next : (l : Loop) (session : List Action) → IsLoop l session → IsNext l session (Hear (length session))
heard-next l session k = (omega arith, λ t n here. omega (arith, k.possible.links.hears t n here, slice_get_within session t (Hear n) here))

abbrev IsLearnt : Loop → List Action → List Action → Type 0
IsLearnt l session later =
    IsLoop l later × (receiver l later ≡ receiver l session) × (accepted l later ≡ accepted l session) × (length later ≡ suc (length session)) × (known l later (length later) ≡ accepted l session)

learnt : (l : Loop) (session : List Action) → IsLoop l session → IsLearnt l session (session ++ Hear (length session) ∷ [])
learnt l session k =
    let n = length session in
    let later = session ++ Hear n ∷ [] in
    let loop : IsLoop l later = longer-quiet l session (Hear n) k (heard-next l session k) refl in
    let same : receiver l later ≡ receiver l session = one-more l session (Hear n) in
    let long : length later ≡ suc n = omega (arith, length_push session (Hear n)) in
    let so = known-so l session n k in
    let low : known l session n ≤ accepted l session = subst (λ xs. known l session n ≤ accepted l xs) (whole session) so.below in
    let near : accepted l (take n session) ≤ known l session n + l.window = omega arith in
    let high : accepted l session ≤ known l session n + l.window = subst (λ xs. accepted l xs ≤ known l session n + l.window) (whole session) near in
    let before : known l later n ≡ known l session n = known-at l session (Hear n ∷ []) n k.possible (omega arith) in
    let nr : reported l later n ≡ (l.first + accepted l session) % 256 = reported-so l later n loop ∙ ap (λ xs. (l.first + accepted l xs) % 256) (take_at session (Hear n ∷ []) n refl) in
    let last : known l later (suc n) ≡ heard l.first l.window (known l later n) (reported l later n) = known-step l later n (Hear n) (get-last session (Hear n)) in
    let decoded : known l later (suc n) ≡ accepted l session = last ∙ ap (heard l.first l.window (known l later n)) nr ∙ ap (λ a. heard l.first l.window a ((l.first + accepted l session) % 256)) before ∙ heard-right l (known l session n) (accepted l session) k.window low high in
    (loop, same, count-same l session later same, long, ap (known l later) long ∙ decoded)

-- ---- the next frame that the sender sends

sent-next : (l : Loop) (session : List Action) → 1 ≤ l.window → known l session (length session) ≡ accepted l session → IsNext l session (Send (accepted l session))
sent-next l session some is = (omega arith, omega arith)

-- ---- the arrival of this frame

expected-row : (width vr ns : ℕ) (bypass control room : Bool) (field : List ℕ) → bypass ≡ false → control ≡ false → room ≡ true → ns ≡ vr → frame_row width vr (kind_by bypass control ns field) room ≡ E1
expected-row width vr ns false false true field b c r e = rw (eq-eqb ns vr e) refl
expected-row width vr ns true control room field b c r e = absurd cc
expected-row width vr ns false true room field b c r e = absurd cc
expected-row width vr ns false false false field b c r e = absurd cc

enters : (row : Row) (r : Report) → row ≡ E1 → r.state ≡ S1 → IsSome (entry row r)
enters row r e s = rw (e, s) refl

sets-none : (row : Row) (st : State) → row ≡ E1 → set_at row st ≡ None
sets-none row st e = rw e refl

takes : (row : Row) (octets : List ℕ) (b : ChannelState) → row ≡ E1 → b.report.state ≡ S1 → (after_frame row octets b).accepted ≡ b.accepted ++ record { ns = (header_of octets).ns; field = drop 5 octets } ∷ []
takes row octets b e s = rw (e, s) refl

room-in : (c : Settings) (b : ChannelState) → 1 ≤ c.buffer → length (buffer b) ≡ 0 → has_room c b ≡ true
room-in c b some empty = grind (arith, nat_tests)

free-state : (c : Settings) (b : ChannelState) → IsSound c b → b.report.state ≢ S3 → has_room c b ≡ true → b.report.state ≡ S1
free-state c b sound free room = by b.report.state refl where
  by : (st : State) → b.report.state ≡ st → st ≡ S1
  by S1 s = refl
  by S2 s = absurd (let full = sound.full (sound.waits s) in cc)
  by S3 s = absurd (free s)

arrived : (l : Loop) (session : List Action) (s : ℕ) → IsLoop l session → slice_get session s ≡ Some (Send (accepted l session)) → suc s ≡ length session → (receiver l session).report.state ≢ S3 → length (buffer (receiver l session)) ≡ 0
    → IsLoop l (session ++ Arrive (accepted l session) s ∷ []) × (accepted l (session ++ Arrive (accepted l session) s ∷ []) ≡ accepted l session + 1)
arrived l session s k from last free empty =
    let a = accepted l session in
    let b = receiver l session in
    let octets = l.frames a in
    let h = header_of octets in
    let action = Arrive a s in
    let room : has_room l.settings b ≡ true = room-in l.settings b k.allowed.buffer.0 empty in
    let state : b.report.state ≡ S1 = free-state l.settings b (state-sound l.limits l.settings (l.before ++ events l session)) free room in
    let number = k.numbered a in
    let row : row_of l.settings b octets ≡ E1 = expected-row l.settings.width b.report.vr h.ns h.bypass h.control (has_room l.settings b) (field_of octets) number.bypass number.control room (number.ns ∙ sym (vr-now l session k)) in
    let next : IsNext l session action = (from, λ t i r here. omega (arith, (k.possible.links.arrives t i r here).0, slice_get_within session t (Arrive i r) here)) in
    let is : receiver l (session ++ action ∷ []) ≡ step l.settings b (Frame octets) = one-more l session action in (
      longer-event l session action (Frame octets) k next refl (number.whole, enters (row_of l.settings b octets) b.report row state) (sets-none (row_of l.settings b octets) b.report.state row),
      ever-more l session (session ++ action ∷ []) (record { ns = h.ns; field = drop 5 octets }) (ap (λ (c : ChannelState). c.accepted) is ∙ takes (row_of l.settings b octets) octets b row state),
    )

-- ---- one round of actions, in which one more frame is accepted

four-more : (xs : List Action) (a b c d : Action) → (((xs ++ a ∷ []) ++ b ∷ []) ++ c ∷ []) ++ d ∷ [] ≡ xs ++ (a ∷ b ∷ c ∷ d ∷ [])
four-more [] a b c d = refl
four-more (x ∷ xs) a b c d = ap (λ ys. x ∷ ys) (four-more xs a b c d)

four-named : (p i j s m a b c d : ℕ) → p ≡ a → i ≡ b → j ≡ b → s ≡ c → m ≡ d
    → (Hear p ∷ Send i ∷ Arrive j s ∷ Hear m ∷ []) ≡ (Hear a ∷ Send b ∷ Arrive b c ∷ Hear d ∷ [])
four-named p i j s m a b c d e f g h k = rw (e, f, g, h, k) refl

free-now : (l : Loop) (session : List Action) → IsLoop l session → l.window ≤ l.settings.width / 2 → (receiver l []).report.state ≢ S3 → (receiver l session).report.state ≢ S3
free-now l session k half free = subst (λ xs. (receiver l xs).report.state ≢ S3) (whole session) (stays-open l session (length session) k half free)

pub goes-on : (l : Loop) (session : List Action) → IsLoop l session → 1 ≤ l.window → l.window ≤ l.settings.width / 2 → (receiver l []).report.state ≢ S3 → GoesOn l session (session ++ round l session)
goes-on l session k some half free =
    let n = length (buffer (receiver l session)) in
    let a = accepted l session in
    let one = session ++ releases n in
    let (loop_one, empty_one, count_one, long_one) = emptied l n session k refl in
    let two = one ++ Hear (length one) ∷ [] in
    let (loop_two, same_two, count_two, long_two, learnt_two) = learnt l one loop_one in
    let three = two ++ Send (accepted l two) ∷ [] in
    let loop_three : IsLoop l three = longer-quiet l two (Send (accepted l two)) loop_two (sent-next l two some (learnt_two ∙ sym count_two)) refl in
    let same_three : receiver l three ≡ receiver l two = one-more l two (Send (accepted l two)) in
    let count_three : accepted l three ≡ accepted l two = count-same l two three same_three in
    let long_three = length_push two (Send (accepted l two)) in
    let from : slice_get three (length two) ≡ Some (Send (accepted l three)) = get-last two (Send (accepted l two)) ∙ ap (λ i. Some (Send i)) (sym count_three) in
    let empty_three : length (buffer (receiver l three)) ≡ 0 = ap (λ (b : ChannelState). length (buffer b)) (same_three ∙ same_two) ∙ empty_one in
    let four = three ++ Arrive (accepted l three) (length two) ∷ [] in
    let (loop_four, count_four) = arrived l three (length two) loop_three from (omega arith) (free-now l three loop_three half free) empty_three in
    let long_four = length_push three (Arrive (accepted l three) (length two)) in
    let five = four ++ Hear (length four) ∷ [] in
    let (loop_five, same_five, count_five, long_five, learnt_five) = learnt l four loop_four in
    let more : accepted l four ≡ a + 1 = omega arith in
    let all : GoesOn l session five = record { loop = loop_five; one_more = count_five ∙ more; learnt = learnt_five ∙ more } in
    let shape = four-more one (Hear (length one)) (Send (accepted l two)) (Arrive (accepted l three) (length two)) (Hear (length four)) in
    let named = four-named (length one) (accepted l two) (accepted l three) (length two) (length four) (length session + n) a (length session + n + 1) (length session + n + 3) long_one (count_two ∙ count_one) (count_three ∙ count_two ∙ count_one) (omega arith) (omega arith) in
    let is : five ≡ session ++ round l session = shape ∙ ap (λ ys. one ++ ys) named ∙ append_assoc session (releases n) (Hear (length session + n) ∷ Send a ∷ Arrive a (length session + n + 1) ∷ Hear (length session + n + 3) ∷ []) in
    subst (GoesOn l session) is all

pub by-rounds : (l : Loop) (n : ℕ) (session : List Action) → IsLoop l session → 1 ≤ l.window → l.window ≤ l.settings.width / 2 → (receiver l []).report.state ≢ S3 → GoesOnBy l n session
by-rounds l zero session k some half free = record { loop = k; more = omega arith }
by-rounds l (suc n) session k some half free =
    let one = goes-on l session k some half free in
    let rest = by-rounds l n (session ++ round l session) one.loop some half free in
    record { loop = rest.loop; more = rest.more ∙ (omega arith) }
