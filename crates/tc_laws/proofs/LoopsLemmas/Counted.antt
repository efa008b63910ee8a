-- The numbers of accepted, known and begun frames of a session meet the conditions of `Counts`.
use Rattle.tc_laws.proofs.LoopsLemmas.Names.{passed_since, sent_from, released_since, passed-as-sent, events_at, Accepted, Action, Arrive, ChannelState, ComesFromWithin, Event, Frame, Hear, IsEraWithin, IsKnownSo, IsLawfulWithin, IsLoop, IsOfSender, IsOther, Link, List, Loop, None, NoneSetsWithin, Option, Other, Report, Send, Settings, Some, [], accepted, accepted_since_within, all-sent, ap, append-nil, append_assoc, arith, begun, begun_from, clcw_within, drop, drop-append_seam, era-law, events, fields_of, header_of, heard, inl, inr, journal, known, known_from, lawful-before, length, length-append, max, receiver, refl, reported, run-append, run_from, run_within, sent, set_by, slice_get, step, subst, suc, sym, take, take-append-drop, vr-below, word_of, zero, ℕ, ◌%◌, ◌++◌, ◌+◌, ◌<◌, ◌∙◌, ◌∷◌, ◌≡◌, ◌≤◌, ◌⊎◌}
use Rattle.tc_laws.proofs.LoopsLemmas.Actions.{take-some, take-none, events-append, known-append, begun-append, moment-of}
use Rattle.tc_laws.proofs.LoopsLemmas.Taking.{step-takes}
use Rattle.tc_laws.proofs.LoopsLemmas.Window.{Counts, holds, comes-near, begun-most, begun-least}

-- events leave the accepted frames as they are, and may append more
run-grows : (c : Settings) (b : ChannelState) (es : List Event) → (more : List Accepted) × ((run_from c b es).accepted ≡ b.accepted ++ more)
run-grows c b [] = ([], sym (append-nil b.accepted))
run-grows c b (e ∷ es) =
    let rest = run-grows c (step c b e) es in
    elim (step-takes c b e) [
      | inl same ↦ (rest.0, rw (rest.1, same) refl)
      | inr taken ↦ let one : Accepted = record { ns = (header_of taken.0).ns; field = drop 5 taken.0 } in (one ∷ rest.0, rest.1 ∙ rw taken.2.more (append_assoc b.accepted (one ∷ []) rest.0))
    ]

pub ever : Loop → List Action → ℕ
ever l session = length (receiver l session).accepted

pub base : Loop → ℕ
base l = length (run_within l.limits l.settings l.before).accepted

parted : (l : Loop) (session : List Action) → ever l session ≡ base l + accepted l session
unfolding ever base
parted l session =
    let old = run_within l.limits l.settings l.before in
    let more = run-grows l.settings old (events l session) in
    let is : (receiver l session).accepted ≡ old.accepted ++ more.0 = ap (λ (b : ChannelState). b.accepted) (run-append l.limits l.settings l.before (events l session)) ∙ more.1 in
    let whole : length (receiver l session).accepted ≡ length old.accepted + length more.0 = ap length is ∙ length-append old.accepted more.0 in
    let since : accepted l session ≡ length more.0 = ap length (ap (drop (length old.accepted)) is ∙ drop-append_seam old.accepted more.0) in
    omega arith

ever-first : (l : Loop) → ever l [] ≡ base l
unfolding ever base
ever-first l = ap (λ es. length (run_within l.limits l.settings es).accepted) (append-nil l.before)

none-yet : (l : Loop) → accepted l [] ≡ 0
none-yet l = let p = parted l [] in let e = ever-first l in omega arith

-- the journal of a longer session is the journal of its beginning, followed by the events of the further actions
pub journal-append : (l : Loop) (xs ys : List Action) → journal l (xs ++ ys) ≡ journal l xs ++ events l ys
journal-append l xs ys = ap (λ es. l.before ++ es) (events-append l xs ys) ∙ sym (append_assoc l.before (events l xs) (events l ys))

pub get-append : {A : Type 0} (xs ys : List A) (i : ℕ) (a : A) → slice_get xs i ≡ Some a → slice_get (xs ++ ys) i ≡ Some a
get-append [] ys i a e = absurd cc
get-append (x ∷ xs) ys zero a e = e
get-append (x ∷ xs) ys (suc i) a e = get-append xs ys i a e

pub take-append : {A : Type 0} (xs ys : List A) (i : ℕ) (a : A) → slice_get xs i ≡ Some a → take i (xs ++ ys) ≡ take i xs
take-append [] ys i a e = absurd cc
take-append (x ∷ xs) ys zero a e = refl
take-append (x ∷ xs) ys (suc i) a e = ap (λ zs. x ∷ zs) (take-append xs ys i a e)

none-sets-before : (limits : ℕ → ℕ) (s : Settings) (before es fs : List Event) → NoneSetsWithin limits s before (es ++ fs) → NoneSetsWithin limits s before es
none-sets-before limits s before es fs none = λ i e here. subst (λ gs. set_by s (run_within limits s (before ++ gs)) e ≡ None) (take-append es fs i e here) (none i e (get-append es fs i e here))

-- the session so far has a lawful journal, and its events are an era, which begins with the V(R) `first`
pub record IsBegun (l : Loop) (session : List Action) : Type 0 where
  pub lawful : IsLawfulWithin l.limits l.settings (journal l session)
  pub era : IsEraWithin l.limits l.settings (journal l session) l.before (events l session) l.first

begun-before : (l : Loop) (xs ys : List Action) → IsBegun l (xs ++ ys) → IsBegun l xs
begun-before l xs ys whole = record {
  lawful = lawful-before l.limits l.settings (journal l xs) (events l ys) (subst (λ es. IsLawfulWithin l.limits l.settings es) (journal-append l xs ys) whole.lawful);
  era = record {
    parts = refl;
    starts = whole.era.starts;
    last = none-sets-before l.limits l.settings l.before (events l xs) (events l ys) (subst (λ es. NoneSetsWithin l.limits l.settings l.before es) (events-append l xs ys) whole.era.last);
  };
}

pub begun-at : (l : Loop) (session : List Action) (t : ℕ) → IsBegun l session → IsBegun l (take t session)
begun-at l session t whole = begun-before l (take t session) (drop t session) (subst (IsBegun l) (sym (take-append-drop t session)) whole)

pub vr-at : (l : Loop) (session : List Action) (t : ℕ) → IsLoop l session → (receiver l (take t session)).report.vr ≡ (l.first + accepted l (take t session)) % 256
vr-at l session t k =
    let begun = begun-at l session t (record { lawful = k.lawful; era = k.era }) in
    (era-law l.limits l.settings (journal l (take t session)) k.allowed begun.lawful l.before (events l (take t session)) l.first begun.era).vr

-- the report value of a CLCW is V(R)
word-shows : (r : Report) (vcid : ℕ) (link : Link) → r.vr < 256 → (fields_of (word_of r vcid link)).vr ≡ r.vr
word-shows r vcid link small = omega arith

pub clcw-shows : (l : Loop) (xs : List Action) (link : Link) → (receiver l xs).report.vr < 256 → (fields_of (clcw_within l.limits l.settings (journal l xs) link)).vr ≡ (receiver l xs).report.vr
unfolding clcw_within
clcw-shows l xs link small = word-shows (receiver l xs).report l.settings.vcid link small

pub reported-so : (l : Loop) (session : List Action) (m : ℕ) → IsLoop l session → reported l session m ≡ (l.first + accepted l (take m session)) % 256
reported-so l session m k =
    let begun = begun-at l session m (record { lawful = k.lawful; era = k.era }) in
    clcw-shows l (take m session) (l.links m) (vr-below l.limits l.settings (journal l (take m session)) k.allowed.first begun.lawful) ∙ vr-at l session m k

-- an action adds no accepted frame, or it is the arrival of a frame with the number V(R), and adds this frame
abbrev Adds : Loop → List Action → ℕ → Type 0
Adds l session t = (accepted l (take (suc t) session) ≡ accepted l (take t session))
    ⊎ ((i : ℕ) × (s : ℕ) × (slice_get session t ≡ Some (Arrive i s)) × ((l.first + i) % 256 ≡ (l.first + accepted l (take t session)) % 256) × (accepted l (take (suc t) session) ≡ accepted l (take t session) + 1))

lengths-same : (l : Loop) (xs ys : List Action) → (receiver l ys).accepted ≡ (receiver l xs).accepted → ever l ys ≡ ever l xs
unfolding ever
lengths-same l xs ys same = ap length same

pub ever-same : (l : Loop) (xs ys : List Action) → (receiver l ys).accepted ≡ (receiver l xs).accepted → accepted l ys ≡ accepted l xs
ever-same l xs ys same = let p = parted l xs in let q = parted l ys in let e = lengths-same l xs ys same in omega arith

lengths-more : (l : Loop) (xs ys : List Action) (a : Accepted) → (receiver l ys).accepted ≡ (receiver l xs).accepted ++ a ∷ [] → ever l ys ≡ ever l xs + 1
unfolding ever
lengths-more l xs ys a more = ap length more ∙ length-append (receiver l xs).accepted (a ∷ [])

pub ever-more : (l : Loop) (xs ys : List Action) (a : Accepted) → (receiver l ys).accepted ≡ (receiver l xs).accepted ++ a ∷ [] → accepted l ys ≡ accepted l xs + 1
ever-more l xs ys a more = let p = parted l xs in let q = parted l ys in let e = lengths-more l xs ys a more in omega arith

-- the receiver after one more action is the receiver before, run on the events of this action
pub one-more : (l : Loop) (xs : List Action) (action : Action) → receiver l (xs ++ action ∷ []) ≡ run_from l.settings (receiver l xs) (events l (action ∷ []))
one-more l xs action = ap (run_within l.limits l.settings) (journal-append l xs (action ∷ [])) ∙ run-append l.limits l.settings (journal l xs) (events l (action ∷ []))

pub one-at : (l : Loop) (session : List Action) (t : ℕ) (action : Action) → slice_get session t ≡ Some action → receiver l (take (suc t) session) ≡ run_from l.settings (receiver l (take t session)) (events l (action ∷ []))
one-at l session t action here = ap (receiver l) (take-some session t action here) ∙ one-more l (take t session) action

adds : (l : Loop) (session : List Action) (t : ℕ) → IsLoop l session → Adds l session t
adds l session t k = by (slice_get session t) refl where
  by : (o : Option Action) → slice_get session t ≡ o → Adds l session t
  by None none = inl (ap (accepted l) (take-none session t none))
  by (Some (Arrive i s)) here =
      let grown = ap (λ (b : ChannelState). b.accepted) (one-at l session t (Arrive i s) here) in
      elim (step-takes l.settings (receiver l (take t session)) (Frame (l.frames i))) [
        | inl same ↦ inl (ever-same l (take t session) (take (suc t) session) (grown ∙ same))
        | inr taken ↦
            let octets : taken.0 ≡ l.frames i = let e = taken.1 in cc in
            let ns : (header_of (l.frames i)).ns ≡ (receiver l (take t session)).report.vr = ap (λ o. (header_of o).ns) (sym octets) ∙ taken.2.ns in
            inr (i, s, here, sym (k.numbered i).ns ∙ ns ∙ vr-at l session t k, ever-more l (take t session) (take (suc t) session) (record { ns = (header_of taken.0).ns; field = drop 5 taken.0 }) (grown ∙ taken.2.more))
      ]
  by (Some (Other e)) here =
      let grown = ap (λ (b : ChannelState). b.accepted) (one-at l session t (Other e) here) in
      elim (step-takes l.settings (receiver l (take t session)) e) [
        | inl same ↦ inl (ever-same l (take t session) (take (suc t) session) (grown ∙ same))
        | inr taken ↦ absurd (let other : IsOther (Frame taken.0) = subst IsOther taken.1 (k.possible.others t e here) in other taken.2.bypass taken.2.control)
      ]
  by (Some a) here = inl (ever-same l (take t session) (take (suc t) session) (ap (λ (b : ChannelState). b.accepted) (one-at l session t a here)))

-- after one more action, the sender knows the same frames as before, or those that a CLCW shows
abbrev Shows : Loop → List Action → ℕ → Type 0
Shows l session t = (known l session (suc t) ≡ known l session t)
    ⊎ ((m : ℕ) × (slice_get session t ≡ Some (Hear m)) × (known l session (suc t) ≡ heard l.first l.window (known l session t) ((l.first + accepted l (take m session)) % 256)))

pub known-step : (l : Loop) (session : List Action) (t : ℕ) (action : Action) → slice_get session t ≡ Some action → known l session (suc t) ≡ known_from l session (known l session t) (action ∷ [])
known-step l session t action here = ap (known_from l session 0) (take-some session t action here) ∙ known-append l session 0 (take t session) (action ∷ [])

shows : (l : Loop) (session : List Action) (t : ℕ) → IsLoop l session → Shows l session t
shows l session t k = by (slice_get session t) refl where
  by : (o : Option Action) → slice_get session t ≡ o → Shows l session t
  by None none = inl (ap (known_from l session 0) (take-none session t none))
  by (Some (Hear m)) here = inr (m, here, known-step l session t (Hear m) here ∙ ap (heard l.first l.window (known l session t)) (reported-so l session m k))
  by (Some a) here = inl (known-step l session t a here)

-- after one more action, the sender has begun the same frames as before, and the frame that it sends, if any
begun-step : (session : List Action) (t : ℕ) (action : Action) → slice_get session t ≡ Some action → begun session (suc t) ≡ begun_from (begun session t) (action ∷ [])
begun-step session t action here = ap (begun_from 0) (take-some session t action here) ∙ begun-append 0 (take t session) (action ∷ [])

abbrev pub Begins : List Action → ℕ → Type 0
Begins session t = (begun session (suc t) ≡ begun session t) ⊎ ((i : ℕ) × (slice_get session t ≡ Some (Send i)) × (begun session (suc t) ≡ max (begun session t) (i + 1)))

pub begins : (session : List Action) (t : ℕ) → Begins session t
begins session t = by (slice_get session t) refl where
  by : (o : Option Action) → slice_get session t ≡ o → Begins session t
  by None none = inl (ap (begun_from 0) (take-none session t none))
  by (Some (Send i)) here = inr (i, here, begun-step session t (Send i) here)
  by (Some a) here = inl (begun-step session t a here)

pub counts : (l : Loop) (session : List Action) → IsLoop l session → Counts l session (λ t. accepted l (take t session)) (λ t. known l session t) (λ t. begun session t)
counts l session k = record {
  none_accepted = none-yet l;
  none_known = refl;
  none_begun = refl;
  taken = λ t. adds l session t k;
  learnt = λ t. shows l session t k;
  begins = λ t. begins session t;
  sent = λ t i here. begun-step session t (Send i) here;
  sends = k.possible.sends;
  links = k.possible.links;
}

pub known-so : (l : Loop) (session : List Action) (t : ℕ) → IsLoop l session → IsKnownSo l session t
known-so l session t k =
    let h = holds l session (λ t. accepted l (take t session)) (λ t. known l session t) (λ t. begun session t) k.window (counts l session k) t in
    let least = begun-least l session (λ t. accepted l (take t session)) (λ t. known l session t) (λ t. begun session t) k.window (counts l session k) t in
    let most = begun-most l session (λ t. accepted l (take t session)) (λ t. known l session t) (λ t. begun session t) k.window (counts l session k) t in
    record { below = h.low; among = least; within = most }

pub near-at : (l : Loop) (session : List Action) (t i s : ℕ) → IsLoop l session → slice_get session t ≡ Some (Arrive i s) → (accepted l (take t session) ≤ i + l.window) × (i < accepted l (take t session) + l.window)
near-at l session t i s k here =
    let n = comes-near l session (λ t. accepted l (take t session)) (λ t. known l session t) (λ t. begun session t) k.window (counts l session k) t i s here in
    (n.not_old, n.not_new)

sender's : (l : Loop) (session : List Action) (t : ℕ) (action : Action) (e : Event) → IsLoop l session → slice_get session t ≡ Some action → events_at l.frames action ≡ e ∷ [] → IsOfSender l.first (sent l) (accepted l (take t session)) e
sender's l session t (Arrive i s) e k here is =
    let n = near-at l session t i s k here in
    let one : IsOfSender l.first (sent l) (accepted l (take t session)) (Frame (l.frames i)) = λ bypass control. record { number = i; ns = (k.numbered i).ns; field = refl; not_old = omega arith; not_new = omega arith } in
    let its : Frame (l.frames i) ≡ e = cc in
    subst (IsOfSender l.first (sent l) (accepted l (take t session))) its one
sender's l session t (Other f) e k here is = let its : f ≡ e = cc in subst (IsOfSender l.first (sent l) (accepted l (take t session))) its (by f (k.possible.others t f here)) where
  by : (f : Event) → IsOther f → IsOfSender l.first (sent l) (accepted l (take t session)) f
  by (Frame octets) other = λ bypass control. absurd (other bypass control)
  by _ other = tt
sender's l session t _ e k here is = absurd cc

pub comes : (l : Loop) (session : List Action) → IsLoop l session → ComesFromWithin l.limits l.settings l.before (events l session) l.first (sent l)
comes l session k = λ place e here.
    let m = moment-of l session place e here in
    subst (λ es. IsOfSender l.first (sent l) (length (accepted_since_within l.limits l.settings l.before (l.before ++ es))) e) m.4 (sender's l session m.0 m.1 e k m.2 m.3)

pub in-order : (l : Loop) (session : List Action) → IsLoop l session → (i : ℕ) (a : Accepted) → slice_get (accepted_since_within l.limits l.settings l.before (journal l session)) i ≡ Some a → a.field ≡ sent l i
in-order l session k = all-sent l.limits l.settings (journal l session) l.before (events l session) l.first (sent l) k.era (comes l session k)

-- the data fields that are passed on in a loop are the first that were sent, as many as were released
pub passed-on : (l : Loop) (session : List Action) → IsLoop l session
    → passed_since l.limits l.settings l.before (receiver l session).passed ≡ sent_from (sent l) 0 (released_since l.limits l.settings l.before (journal l session))
passed-on l session k = passed-as-sent l.limits l.settings (journal l session) l.before (events l session) l.first (sent l) k.lawful k.era (comes l session k)
