-- A session with one more action.
use Rattle.tc_laws.proofs.LoopsLemmas.Names.{take_at, Action, Arrive, Event, HasStep, Hear, Idle, IsLawfulWithin, IsLoop, IsOther, IsSession, KeepOrder, List, Loop, None, NoneSetsWithin, Other, Send, Settings, Some, [], ap, append-nil, arith, clcw_within, drop, events, fields_of, heard, inl, inr, journal, known, known_from, lawful-push, length, receiver, refl, reported, run_within, set_by, slice_get, slice_get_within, subst, suc, sym, take, take-append-drop, take-append-le, zero, ℕ, ◌++◌, ◌+◌, ◌<◌, ◌∙◌, ◌∷◌, ◌≡◌, ◌≤◌, ◌⊎◌}
use Rattle.tc_laws.proofs.LoopsLemmas.Actions.{events-append}
use Rattle.tc_laws.proofs.LoopsLemmas.Counted.{journal-append, get-append, take-append}

pub get-end : {A : Type 0} (xs : List A) (a : A) (t : ℕ) (b : A) → slice_get (xs ++ a ∷ []) t ≡ Some b → ((slice_get xs t ≡ Some b) × (t < length xs)) ⊎ ((t ≡ length xs) × (a ≡ b))
get-end [] a zero b e = inr (refl, cc)
get-end [] a (suc t) b e = absurd cc
get-end (x ∷ xs) a zero b e = inl (e, omega arith)
get-end (x ∷ xs) a (suc t) b e = elim (get-end xs a t b e) [
  | inl p ↦ let low = p.1 in inl (p.0, omega arith)
  | inr p ↦ let at = p.0 in inr (omega arith, p.1)
]

get-before : {A : Type 0} (xs : List A) (a : A) (t : ℕ) (b : A) → slice_get (xs ++ a ∷ []) t ≡ Some b → t < length xs → slice_get xs t ≡ Some b
get-before xs a t b e low = elim (get-end xs a t b e) [
  | inl p ↦ p.0
  | inr p ↦ absurd (let at = p.0 in omega arith)
]

pub get-last : {A : Type 0} (xs : List A) (a : A) → slice_get (xs ++ a ∷ []) (length xs) ≡ Some a
get-last [] a = refl
get-last (x ∷ xs) a = get-last xs a

pub get-take : {A : Type 0} (xs : List A) (n t : ℕ) (b : A) → slice_get (take n xs) t ≡ Some b → slice_get xs t ≡ Some b
get-take xs n t b e = subst (λ ys. slice_get ys t ≡ Some b) (take-append-drop n xs) (get-append (take n xs) (drop n xs) t b e)

reported-same : (l : Loop) (session more : List Action) (m : ℕ) → m ≤ length session → reported l (session ++ more) m ≡ reported l session m
reported-same l session more m low = ap (λ ys. (fields_of (clcw_within l.limits l.settings (journal l ys) (l.links m))).vr) (take-append-le m session more low)

known-same : (l : Loop) (session more : List Action) (a : ℕ) (rest : List Action) → ((t m : ℕ) → slice_get rest t ≡ Some (Hear m) → m ≤ length session)
    → known_from l (session ++ more) a rest ≡ known_from l session a rest
known-same l session more a [] each = refl
known-same l session more a (Hear m ∷ rest) each =
    ap (λ b. known_from l (session ++ more) (heard l.first l.window a b) rest) (reported-same l session more m (each 0 m refl))
    ∙ known-same l session more (heard l.first l.window a (reported l session m)) rest (λ t n e. each (suc t) n e)
known-same l session more a (x ∷ rest) each = known-same l session more a rest (λ t m e. each (suc t) m e)

-- if a session is continued, the sender knows as many frames at each earlier moment as without the further actions
pub known-at : (l : Loop) (session more : List Action) (t : ℕ) → IsSession l session → t ≤ length session → known l (session ++ more) t ≡ known l session t
known-at l session more t k low =
    ap (known_from l (session ++ more) 0) (take-append-le t session more low)
    ∙ known-same l session more 0 (take t session) (λ u m e.
    let here = get-take session t u (Hear m) e in
    omega (arith, k.links.hears u m here, slice_get_within session u (Hear m) here))

-- the action can come next
abbrev pub IsNext : Loop → List Action → Action → Type 0
IsNext l session (Send i) = (known l session (length session) ≤ i) × (i < known l session (length session) + l.window)
IsNext l session (Arrive i s) = (slice_get session s ≡ Some (Send i)) × ((t j r : ℕ) → slice_get session t ≡ Some (Arrive j r) → r ≤ s)
IsNext l session (Hear m) = (m ≤ length session) × ((t n : ℕ) → slice_get session t ≡ Some (Hear n) → n ≤ m)
IsNext l session (Other e) = IsOther e
IsNext l session Idle = Unit {0}

in-order-next : (l : Loop) (session : List Action) (action : Action) → KeepOrder session → IsNext l session action → KeepOrder (session ++ action ∷ [])
in-order-next l session action k n = record {
  arrives = λ t i s here. elim (get-end session action t (Arrive i s) here) [
    | inl p ↦ let from = k.arrives t i s p.0 in (from.0, get-append session (action ∷ []) s (Send i) from.1)
    | inr p ↦
        let from = (subst (IsNext l session) p.1 n).0 in
        (omega (arith, p.0, slice_get_within session s (Send i) from), get-append session (action ∷ []) s (Send i) from)
  ];
  hears = λ t m here. elim (get-end session action t (Hear m) here) [
    | inl p ↦ k.hears t m p.0
    | inr p ↦ omega (arith, p.0, (subst (IsNext l session) p.1 n).0)
  ];
  frames_in_order = λ t u i j s r order here later. elim (get-end session action u (Arrive j r) later) [
    | inl p ↦ let low = p.1 in k.frames_in_order t u i j s r order (get-before session action t (Arrive i s) here (omega arith)) p.0
    | inr p ↦ let at = p.0 in (subst (IsNext l session) p.1 n).1 t i s (get-before session action t (Arrive i s) here (omega arith))
  ];
  reports_in_order = λ t u m r order here later. elim (get-end session action u (Hear r) later) [
    | inl p ↦ let low = p.1 in k.reports_in_order t u m r order (get-before session action t (Hear m) here (omega arith)) p.0
    | inr p ↦ let at = p.0 in (subst (IsNext l session) p.1 n).1 t m (get-before session action t (Hear m) here (omega arith))
  ];
}

possible-next : (l : Loop) (session : List Action) (action : Action) → IsSession l session → IsNext l session action → IsSession l (session ++ action ∷ [])
possible-next l session action k n = record {
  sends = λ t i here. elim (get-end session action t (Send i) here) [
    | inl p ↦ let low = p.1 in subst (λ a. (a ≤ i) × (i < a + l.window)) (sym (known-at l session (action ∷ []) t k (omega arith))) (k.sends t i p.0)
    | inr p ↦
        let at = p.0 in
        let same : known l (session ++ action ∷ []) t ≡ known l session (length session) = known-at l session (action ∷ []) t k (omega arith) ∙ ap (known l session) at in
        subst (λ a. (a ≤ i) × (i < a + l.window)) (sym same) (subst (IsNext l session) p.1 n)
  ];
  links = in-order-next l session action k.links n;
  others = λ t e here. elim (get-end session action t (Other e) here) [
    | inl p ↦ k.others t e p.0
    | inr p ↦ subst (IsNext l session) p.1 n
  ];
}

none-push : (limits : ℕ → ℕ) (s : Settings) (before es : List Event) (e : Event) → NoneSetsWithin limits s before es → set_by s (run_within limits s (before ++ es)) e ≡ None → NoneSetsWithin limits s before (es ++ e ∷ [])
none-push limits s before es e none one = λ i f here. elim (get-end es e i f here) [
  | inl p ↦ subst (λ gs. set_by s (run_within limits s (before ++ gs)) f ≡ None) (sym (take-append es (e ∷ []) i f p.0)) (none i f p.0)
  | inr p ↦
      subst (λ gs. set_by s (run_within limits s (before ++ gs)) f ≡ None) (sym (take_at es (e ∷ []) i (sym p.0))) (subst (λ g. set_by s (run_within limits s (before ++ es)) g ≡ None) p.1 one)
]

longer : (l : Loop) (session : List Action) (action : Action) → IsLoop l session → IsNext l session action → IsLawfulWithin l.limits l.settings (journal l (session ++ action ∷ []))
    → NoneSetsWithin l.limits l.settings l.before (events l (session ++ action ∷ [])) → IsLoop l (session ++ action ∷ [])
longer l session action k n lawful none = record {
  window = k.window;
  numbered = k.numbered;
  allowed = k.allowed;
  lawful = lawful;
  era = record { parts = refl; starts = k.era.starts; last = none };
  possible = possible-next l session action k.possible n;
}

-- If an action that can come next is appended to a session of a loop, the longer session is one of the loop. An action
-- that is an event of the receiver must also have a step in the receiver's state, and must not set V(R).
pub longer-quiet : (l : Loop) (session : List Action) (action : Action) → IsLoop l session → IsNext l session action → events l (action ∷ []) ≡ [] → IsLoop l (session ++ action ∷ [])
longer-quiet l session action k n none =
    let same = sym (events-append l session (action ∷ []) ∙ ap (λ es. events l session ++ es) none ∙ append-nil (events l session)) in
    longer l session action k n (subst (λ es. IsLawfulWithin l.limits l.settings (l.before ++ es)) same k.lawful) (subst (λ es. NoneSetsWithin l.limits l.settings l.before es) same k.era.last)

pub longer-event : (l : Loop) (session : List Action) (action : Action) (e : Event) → IsLoop l session → IsNext l session action → events l (action ∷ []) ≡ e ∷ [] → HasStep l.settings (receiver l session) e
    → set_by l.settings (receiver l session) e ≡ None → IsLoop l (session ++ action ∷ [])
longer-event l session action e k n one has none =
    let same = sym (events-append l session (action ∷ []) ∙ ap (λ es. events l session ++ es) one) in
    let whole = sym (journal-append l session (action ∷ []) ∙ ap (λ es. journal l session ++ es) one) in
    longer l session action k n (subst (IsLawfulWithin l.limits l.settings) whole (lawful-push l.limits l.settings (journal l session) e k.lawful has))
    (subst (NoneSetsWithin l.limits l.settings l.before) same (none-push l.limits l.settings l.before (events l session) e k.era.last none))
