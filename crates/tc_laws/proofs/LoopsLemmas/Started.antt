-- The era that Set V(R) starts is a loop.
use Rattle.tc_laws.proofs.LoopsLemmas.Names.{Action, Arrive, Bc, Bool, ChannelState, E1, E10, E8, Event, Frame, Hear, Idle, IsLawfulWithin, IsLoop, IsObeyed, IsOther, IsSession, IsStart, List, None, NoneSetsWithin, Option, Other, Release, Report, Row, S1, S3, Send, SetVr, Settings, Some, Start, State, [], ap, append-nil, arith, clcw_within, cond, drop, entry_at, era, era_action, era_actions, era_session, events, field_of, fields_of, flags-at_E1, has_room, header_of, inl, inr, journal, kind_of, known, known_from, known_since, lawful-before, length, nat_le, nat_lt, nat_tests, passed_on, receiver, refl, reported, row_of, run_within, set_at, set_by, slice_get, slice_get_within, step, subst, suc, sym, take, take-append-drop, take-take, take_all, unwrap_or, vr-below, zero, ℕ, ◌++◌, ◌+◌, ◌-◌, ◌<◌, ◌∙◌, ◌∷◌, ◌≡◌, ◌≢◌, ◌≤◌, ◌⊎◌, events_at, cases_lt, cases_eq, option_map, drop_all, length-take, drop-append-le}
use Rattle.tc_laws.proofs.LoopsLemmas.Actions.{known-append, take-some, take-none}
use Rattle.tc_laws.proofs.LoopsLemmas.Counted.{journal-append, known-step, one-at, clcw-shows}

-- The action of the era's loop was `a` in the session. If the era's action is `Other`, the session had the same event,
-- or an earlier frame or Set V(R) arrived.
abbrev WasSuch : Start → ℕ → Action → Action → Type 0
WasSuch s t a (Send i) = a ≡ Send (s.directive + 1 + i)
WasSuch s t a (Arrive i r) = (s.again < t) × (a ≡ Arrive (s.directive + 1 + i) r)
WasSuch s t a (Hear m) = (s.believed ≤ t) × (a ≡ Hear m)
WasSuch s t a (Other f) = (s.again < t) × ((a ≡ Other f) ⊎ ((j : ℕ) × (r : ℕ) × (a ≡ Arrive j r) × (j ≤ s.directive) × (f ≡ Frame (s.loop.frames j))))
WasSuch s t a Idle = Unit {0}

such : (s : Start) (t : ℕ) (a b : Action) → era_action s t a ≡ b → WasSuch s t a b
such s t (Send j) (Send i) e = ap (λ n. Send n) (grind (arith, nat_tests))
such s t (Arrive j r) (Arrive i q) e = by (nat_le t s.again) (nat_lt s.directive j) refl refl e where
  by : (b c : Bool) → nat_le t s.again ≡ b → nat_lt s.directive j ≡ c → cond b Idle (cond c (Arrive (j - (s.directive + 1)) r) (Other (Frame (s.loop.frames j)))) ≡ Arrive i q → (s.again < t) × (Arrive j r ≡ Arrive (s.directive + 1 + i) q)
  by b c late above e = grind (arith, nat_tests)
such s t (Arrive j r) (Other f) e = grind (arith, nat_tests)
such s t (Hear m) (Hear n) e = grind (arith, nat_tests)
such s t (Other f) (Other g) e = grind (arith, nat_tests)
such s t a Idle e = tt
such s t _ _ e = absurd (grind (arith, nat_tests))

actions-get : (s : Start) (xs : List Action) (n t : ℕ) → slice_get (era_actions s n xs) t ≡ option_map (era_action s (n + t)) (slice_get xs t)
actions-get s [] n t = refl
actions-get s (x ∷ xs) n zero = ap (λ k. Some (era_action s k x)) (omega arith)
actions-get s (x ∷ xs) n (suc t) = actions-get s xs (suc n) t ∙ ap (λ k. option_map (era_action s k) (slice_get xs t)) (omega arith)

sent-so : (s : Start) (t i : ℕ) → era_action s t (Send (s.directive + 1 + i)) ≡ Send i
sent-so s t i = grind (arith, nat_tests)

was-such : (s : Start) (t : ℕ) (b : Action) → slice_get (era_session s) t ≡ Some b → (a : Action) × (slice_get s.session t ≡ Some a) × WasSuch s t a b
was-such s t b e = by (slice_get s.session t) refl (sym (actions-get s s.session 0 t) ∙ e) where
  by : (o : Option Action) → slice_get s.session t ≡ o → option_map (era_action s (0 + t)) o ≡ Some b → (a : Action) × (slice_get s.session t ≡ Some a) × WasSuch s t a b
  by None here q = absurd cc
  by (Some a) here q = let at : 0 + t ≡ t = omega arith in (a, here, such s t a b (subst (λ k. era_action s k a ≡ b) at cc))

take-seen : (s : Start) (xs : List Action) (n t : ℕ) → take t (era_actions s n xs) ≡ era_actions s n (take t xs)
take-seen s xs n zero = refl
take-seen s [] n (suc t) = refl
take-seen s (x ∷ xs) n (suc t) = ap (λ ys. era_action s n x ∷ ys) (take-seen s xs (suc n) t)

-- ---- the events of the era: those after the last moment at which Set V(R) is obeyed

late-event : (s : Start) (t : ℕ) (x : Action) → s.again < t → events_at (era s).frames (era_action s t x) ≡ events_at s.loop.frames x
late-event s t (Arrive j r) later = grind (arith, nat_tests)
late-event s t (Send j) later = grind (arith, nat_tests)
late-event s t _ later = grind (arith, nat_tests)

early-event : (s : Start) (t : ℕ) (x : Action) → t ≤ s.again → events_at (era s).frames (era_action s t x) ≡ []
early-event s t (Arrive j r) early = grind (arith, nat_tests)
early-event s t (Send j) early = grind (arith, nat_tests)
early-event s t _ early = grind (arith, nat_tests)

late-events : (s : Start) (xs : List Action) (n : ℕ) → s.again < n → events (era s) (era_actions s n xs) ≡ events s.loop xs
late-events s [] n later = refl
late-events s (x ∷ xs) n later = rw (late-event s n x later, late-events s xs (suc n) (omega arith)) refl

-- if the era begins with action d of a list, the era's events are those of action d and the actions after it
early-events : (s : Start) (d : ℕ) (xs : List Action) (n : ℕ) → n + d ≡ suc s.again → events (era s) (era_actions s n xs) ≡ events s.loop (drop d xs)
early-events s zero xs n e = late-events s xs n (omega arith)
early-events s (suc d) [] n e = refl
early-events s (suc d) (x ∷ xs) n e = rw (early-event s n x (omega arith)) (early-events s d xs (suc n) (omega arith))

era-events : (s : Start) (xs : List Action) → events (era s) (era_actions s 0 xs) ≡ events s.loop (drop (suc s.again) xs)
era-events s xs = early-events s (suc s.again) xs 0 (omega arith)

-- from the start of the era on, the journal of the era's loop equals the journal of the session
journal-late : (s : Start) (t : ℕ) → s.again < t → journal (era s) (take t (era_session s)) ≡ journal s.loop (take t s.session)
journal-late s t later =
    let n = suc s.again in
    let xs = take t s.session in
    let first : take n xs ≡ take n s.session = take-take n t s.session (omega arith) in
    ap (λ ys. journal (era s) ys) (take-seen s s.session 0 t)
    ∙ ap (λ es. journal s.loop (take n s.session) ++ es) (era-events s xs)
    ∙ ap (λ ys. journal s.loop ys ++ events s.loop (drop n xs)) (sym first)
    ∙ sym (journal-append s.loop (take n xs) (drop n xs))
    ∙ ap (journal s.loop) (take-append-drop n xs)

journal-early : (s : Start) (t : ℕ) → t ≤ suc s.again → journal (era s) (take t (era_session s)) ≡ journal s.loop (take (suc s.again) s.session)
journal-early s t early =
    let n = suc s.again in
    let xs = take t s.session in
    let none : drop n xs ≡ [] = drop_all n xs (omega (arith, length-take {A = Action})) in
    ap (λ ys. journal (era s) ys) (take-seen s s.session 0 t)
    ∙ ap (λ es. journal s.loop (take n s.session) ++ es) (era-events s xs ∙ ap (events s.loop) none)
    ∙ append-nil (journal s.loop (take n s.session))

-- ---- V(R) is the number that Set V(R) names, from the moment `obeyed` to the moment `again`

set-vr : (row : Row) (st : State) (r : Report) (x : ℕ) → row ≡ E8 x → (set_at row st ≡ Some x) ⊎ (r.vr ≡ x) → (unwrap_or (entry_at row st r) r).vr ≡ x
set-vr (E8 y) S3 r x e (inl is) = absurd cc
set-vr (E8 y) S3 r x e (inr is) = is
set-vr (E8 y) _ r x e is = let q : y ≡ x = cc in q
set-vr _ st r x e is = absurd cc

kept-vr : (row : Row) (st : State) (r : Report) → row ≢ E1 → set_at row st ≡ None → (unwrap_or (entry_at row st r) r).vr ≡ r.vr
kept-vr E1 st r other none = absurd (other refl)
kept-vr (E8 x) S3 r other none = refl
kept-vr (E8 x) _ r other none = absurd cc
kept-vr _ S1 r other none = refl
kept-vr _ _ r other none = refl

other-vr : (c : Settings) (b : ChannelState) (e : Event) → IsOther e → set_by c b e ≡ None → (step c b e).report.vr ≡ b.report.vr
unfolding passed_on
other-vr c b (Frame octets) other none = kept-vr (row_of c b octets) b.report.state b.report (λ e.
    let h = header_of octets in
    let flags = flags-at_E1 c.width b.report.vr h.ns h.bypass h.control (has_room c b) (field_of octets) e in
    other flags.0 flags.1) none
other-vr c b Release other none = kept-vr E10 b.report.state b.report (λ e. cc) refl
other-vr c b _ other none = refl

directive-vr : (c : Settings) (b : ChannelState) (octets : List ℕ) (x : ℕ) → kind_of (header_of octets) (field_of octets) ≡ Bc (SetVr x) → (set_by c b (Frame octets) ≡ Some x) ⊎ (b.report.vr ≡ x) → (step c b (Frame octets)).report.vr ≡ x
unfolding passed_on
directive-vr c b octets x e is = set-vr (row_of c b octets) b.report.state b.report x (rw e refl) is

directive-other : (octets : List ℕ) (x : ℕ) → kind_of (header_of octets) (field_of octets) ≡ Bc (SetVr x) → IsOther (Frame octets)
directive-other octets x e = λ bypass control. let q = rw (bypass, control) at e in cc

module _ (s : Start) (k : IsStart s) where
  -- no earlier frame arrives once Set V(R) was obeyed
  none-of-before : (t j r : ℕ) → s.obeyed < t → slice_get s.session t ≡ Some (Arrive j r) → s.directive ≤ j
  none-of-before t j r later here = elim (cases_lt j s.directive) [
    | inr own ↦ own
    | inl old ↦ absurd (
        let first = k.obeyed in
        omega (arith, k.links.frames_in_order s.obeyed t s.directive j first.0 r later first.1 here, k.stops r first.0 j (k.links.arrives t j r here).1 old (k.links.arrives s.obeyed s.directive first.0 first.1).1))
  ]

  -- no frame of the era arrives before Set V(R) is obeyed for the last time
  none-of-era : (t j r : ℕ) → t < s.again → slice_get s.session t ≡ Some (Arrive j r) → j ≤ s.directive
  none-of-era t j r earlier here = elim (cases_lt s.directive j) [
    | inr old ↦ old
    | inl own ↦ absurd (
        let last = k.again.1 in
        let is : s.directive + 1 + (j - (s.directive + 1)) ≡ j = omega arith in
        let sent : slice_get s.session r ≡ Some (Send j) = (k.links.arrives t j r here).1 in
        let since = (k.sends r (j - (s.directive + 1)) (subst (λ n. slice_get s.session r ≡ Some (Send n)) (sym is) sent)).0 in
        omega (arith, k.links.frames_in_order t s.again j s.directive r last.0 earlier here last.1, k.asks last.0 (k.links.arrives s.again s.directive last.0 last.1).1))
  ]

  vr-obeyed : (t : ℕ) → IsObeyed s t → (receiver s.loop (take (suc t) s.session)).report.vr ≡ s.loop.first
  vr-obeyed t o =
      ap (λ (c : ChannelState). c.report.vr) (one-at s.loop s.session t (Arrive s.directive o.0) o.1)
      ∙ directive-vr s.loop.settings (receiver s.loop (take t s.session)) (s.loop.frames s.directive) s.loop.first k.directive (inl o.2)

  vr-next : (t : ℕ) → s.obeyed < t → t < s.again → (receiver s.loop (take t s.session)).report.vr ≡ s.loop.first → (receiver s.loop (take (suc t) s.session)).report.vr ≡ s.loop.first
  vr-next t after before vr = by (slice_get s.session t) refl where
    by : (o : Option Action) → slice_get s.session t ≡ o → (receiver s.loop (take (suc t) s.session)).report.vr ≡ s.loop.first
    by None none = ap (λ xs. (receiver s.loop xs).report.vr) (take-none s.session t none) ∙ vr
    by (Some (Arrive j r)) here =
        let same : j ≡ s.directive = omega (arith, none-of-before t j r after here, none-of-era t j r before here) in
        let kind = subst (λ n. kind_of (header_of (s.loop.frames n)) (field_of (s.loop.frames n)) ≡ Bc (SetVr s.loop.first)) (sym same) k.directive in
        ap (λ (c : ChannelState). c.report.vr) (one-at s.loop s.session t (Arrive j r) here)
        ∙ directive-vr s.loop.settings (receiver s.loop (take t s.session)) (s.loop.frames j) s.loop.first kind (inr vr)
    by (Some (Other e)) here =
        let is = k.others t e here in
        ap (λ (c : ChannelState). c.report.vr) (one-at s.loop s.session t (Other e) here)
        ∙ other-vr s.loop.settings (receiver s.loop (take t s.session)) e is.0 is.1 ∙ vr
    by (Some a) here = ap (λ (c : ChannelState). c.report.vr) (one-at s.loop s.session t a here) ∙ vr

  vr-at-start : (t : ℕ) → s.obeyed < t → t ≤ s.again → (receiver s.loop (take t s.session)).report.vr ≡ s.loop.first
  vr-at-start zero low high = absurd (omega arith)
  vr-at-start (suc t) low high = elim (cases_lt s.obeyed t) [
    | inl after ↦ vr-next t after (omega arith) (vr-at-start t after (omega arith))
    | inr last ↦ let same : s.obeyed ≡ t = omega arith in subst (λ n. (receiver s.loop (take (suc n) s.session)).report.vr ≡ s.loop.first) same (vr-obeyed s.obeyed k.obeyed)
  ]

  lawful-at : (t : ℕ) → IsLawfulWithin s.loop.limits s.loop.settings (journal s.loop (take t s.session))
  lawful-at t = lawful-before s.loop.limits s.loop.settings (journal s.loop (take t s.session)) (events s.loop (drop t s.session))
      (subst (IsLawfulWithin s.loop.limits s.loop.settings) (ap (journal s.loop) (sym (take-append-drop t s.session)) ∙ journal-append s.loop (take t s.session) (drop t s.session)) k.lawful)

  -- each CLCW that the sender hears from the moment `believed` on was made after Set V(R) was obeyed
  made-later : (t m : ℕ) → s.believed ≤ t → slice_get s.session t ≡ Some (Hear m) → s.obeyed < m
  made-later t m since here =
      let made = k.believes in
      elim (cases_eq s.believed t) [
        | inl now ↦
            let is : Some (Hear made.0) ≡ Some (Hear m) = sym made.1 ∙ ap (slice_get s.session) now ∙ here in
            let same : made.0 ≡ m = cc in
            omega arith
        | inr other ↦ let behind = k.links.reports_in_order s.believed t made.0 m (omega arith) made.1 here in omega arith
      ]

  -- a CLCW that the sender hears from the moment `believed` on has the same report value in the session as in the era's
  -- loop
  same-report : (t m : ℕ) → s.believed ≤ t → slice_get s.session t ≡ Some (Hear m) → reported (era s) (era_session s) m ≡ reported s.loop s.session m
  same-report t m since here = elim (cases_lt s.again m) [
    | inl late ↦ ap (λ es. (fields_of (clcw_within s.loop.limits s.loop.settings es (s.loop.links m))).vr) (journal-late s m late)
    | inr early ↦
        let same = journal-early s m (omega arith) in
        let here = vr-at-start m (made-later t m since here) early in
        let vr : (receiver (era s) (take m (era_session s))).report.vr ≡ s.loop.first = ap (λ es. (run_within s.loop.limits s.loop.settings es).report.vr) same ∙ vr-obeyed s.again k.again.1 in
        let small : s.loop.first < 256 = subst (λ n. n < 256) here (vr-below s.loop.limits s.loop.settings (journal s.loop (take m s.session)) k.allowed.first (lawful-at m)) in
        clcw-shows (era s) (take m (era_session s)) (s.loop.links m) (subst (λ n. n < 256) (sym vr) small) ∙ vr
        ∙ sym (clcw-shows s.loop (take m s.session) (s.loop.links m) (subst (λ n. n < 256) (sym here) small) ∙ here)
  ]

  -- in the era's loop, an action changes the known frames only if the sender hears a CLCW at the moment `believed` or
  -- later
  untaught : (x : Action) (n a : ℕ) → ((m : ℕ) → x ≡ Hear m → n < s.believed) → known_from (era s) (era_session s) a (era_action s n x ∷ []) ≡ a
  untaught (Hear m) n a early = let low = early m refl in grind (arith, nat_tests)
  untaught (Send j) n a early = grind (arith, nat_tests)
  untaught (Arrive j r) n a early = grind (arith, nat_tests)
  untaught _ n a early = grind (arith, nat_tests)

  -- In the session and in the era's loop, the sender knows the same frames of the era to be accepted. Before the moment
  -- `believed`, it knows none.
  pub known-in-era : (t : ℕ) → known (era s) (era_session s) t ≡ known_since s t
  known-in-era zero = ap (known_from s.loop s.session 0) (sym (drop_all {X = Action} s.believed [] (omega arith)))
  known-in-era (suc t) = by (slice_get s.session t) refl (known-in-era t) where
    at : slice_get (era_session s) t ≡ option_map (era_action s (0 + t)) (slice_get s.session t)
    at = actions-get s s.session 0 t

    by : (o : Option Action) → slice_get s.session t ≡ o → known (era s) (era_session s) t ≡ known_since s t → known (era s) (era_session s) (suc t) ≡ known_since s (suc t)
    by None none before =
        ap (known_from (era s) (era_session s) 0) (take-none (era_session s) t (at ∙ ap (option_map (era_action s (0 + t))) none)) ∙ before
        ∙ ap (λ xs. known_from s.loop s.session 0 (drop s.believed xs)) (sym (take-none s.session t none))
    by (Some a) here before =
        let seen : slice_get (era_session s) t ≡ Some (era_action s t a) = at ∙ ap (option_map (era_action s (0 + t))) here ∙ ap (λ k. Some (era_action s k a)) (omega arith) in
        let within = slice_get_within s.session t a here in
        let more = known-step (era s) (era_session s) t (era_action s t a) seen in
        let is = ap (drop s.believed) (take-some s.session t a here) in
        elim (cases_lt t s.believed) [
          | inl early ↦ more ∙ untaught a t (known (era s) (era_session s) t) (λ m e. early) ∙ before
              ∙ ap (known_from s.loop s.session 0) (drop_all s.believed (take t s.session) (omega (arith, length-take {A = Action})) ∙ sym (drop_all s.believed (take (suc t) s.session) (omega (arith, length-take {A = Action}))))
          | inr since ↦ more ∙ ap (λ n. known_from (era s) (era_session s) n (era_action s t a ∷ [])) before ∙ late a here since
              ∙ sym (ap (known_from s.loop s.session 0) (is ∙ drop-append-le s.believed (take t s.session) (a ∷ []) (omega (arith, length-take {A = Action}))) ∙ known-append s.loop s.session 0 (drop s.believed (take t s.session)) (a ∷ []))
        ]
      where
        late : (a : Action) → slice_get s.session t ≡ Some a → s.believed ≤ t → known_from (era s) (era_session s) (known_since s t) (era_action s t a ∷ []) ≡ known_from s.loop s.session (known_since s t) (a ∷ [])
        late (Hear m) here since = rw (← same-report t m since here) (grind (arith, nat_tests))
        late (Send j) here since = untaught (Send j) t (known_since s t) (λ m e. absurd cc)
        late a here since = untaught a t (known_since s t) (λ m e. absurd cc)

  possible : IsSession (era s) (era_session s)
  possible = record {
    sends = λ t i here.
        let from = was-such s t (Send i) here in
        let kept = k.sends t i (from.1 ∙ ap (λ (a : Action). Some a) from.2) in
        subst (λ a. (a ≤ i) × (i < a + s.loop.window)) (sym (known-in-era t)) (kept.1, kept.2);
    links = record {
      arrives = λ t i r here.
          let from = arrival t i r here in
          let was = k.links.arrives t (s.directive + 1 + i) r from in
          (was.0, actions-get s s.session 0 r ∙ ap (option_map (era_action s (0 + r))) was.1 ∙ ap (λ (a : Action). Some a) (sent-so s (0 + r) i));
      hears = λ t m here. k.links.hears t m (hearing t m here);
      frames_in_order = λ t u i j q r order here later. k.links.frames_in_order t u (s.directive + 1 + i) (s.directive + 1 + j) q r order (arrival t i q here) (arrival u j r later);
      reports_in_order = λ t u m n order here later. k.links.reports_in_order t u m n order (hearing t m here) (hearing u n later);
    };
    others = λ t e here.
        let from = was-such s t (Other e) here in
        aside t e from.0 from.2.0 from.1 from.2.1;
  } where
    arrival : (t i r : ℕ) → slice_get (era_session s) t ≡ Some (Arrive i r) → slice_get s.session t ≡ Some (Arrive (s.directive + 1 + i) r)
    arrival t i r here =
        let from = was-such s t (Arrive i r) here in
        from.1 ∙ ap (λ (a : Action). Some a) from.2.1

    hearing : (t m : ℕ) → slice_get (era_session s) t ≡ Some (Hear m) → slice_get s.session t ≡ Some (Hear m)
    hearing t m here =
        let from = was-such s t (Hear m) here in
        from.1 ∙ ap (λ (a : Action). Some a) from.2.1

    aside : (t : ℕ) (e : Event) (a : Action) → s.again < t → slice_get s.session t ≡ Some a → (a ≡ Other e) ⊎ ((j : ℕ) × (r : ℕ) × (a ≡ Arrive j r) × (j ≤ s.directive) × (e ≡ Frame (s.loop.frames j))) → IsOther e
    aside t e a late at (inl own) = (k.others t e (at ∙ ap (λ (b : Action). Some b) own)).0
    aside t e a late at (inr old) =
        let j = old.0 in
        let here : slice_get s.session t ≡ Some (Arrive j old.1) = at ∙ ap (λ (b : Action). Some b) old.2 in
        let same : j ≡ s.directive = omega (arith, none-of-before t j old.1 (omega arith) here) in
        let kind = subst (λ n. kind_of (header_of (s.loop.frames n)) (field_of (s.loop.frames n)) ≡ Bc (SetVr s.loop.first)) (sym same) k.directive in
        subst IsOther (sym old.4) (directive-other (s.loop.frames j) s.loop.first kind)

  -- the whole journal of the era's loop equals the journal of the session
  pub journal-whole : journal (era s) (era_session s) ≡ journal s.loop s.session
  journal-whole =
      let n = length s.session in
      let o = k.again.1 in
      let within = slice_get_within s.session s.again (Arrive s.directive o.0) o.1 in
      let all : take n (era_session s) ≡ era_session s = take-seen s s.session 0 n ∙ ap (era_actions s 0) (take_all n s.session (omega arith)) in
      ap (journal (era s)) (sym all) ∙ journal-late s n within ∙ ap (journal s.loop) (take_all n s.session (omega arith))

  pub is-loop : IsLoop (era s) (era_session s)
  is-loop =
      let o = k.again.1 in
      let was : journal s.loop (take (suc s.again) s.session) ≡ journal s.loop (take s.again s.session) ++ Frame (s.loop.frames s.directive) ∷ [] =
      ap (journal s.loop) (take-some s.session s.again (Arrive s.directive o.0) o.1) ∙ journal-append s.loop (take s.again s.session) (Arrive s.directive o.0 ∷ []) in
      record {
        window = k.window;
        numbered = k.numbered;
        allowed = k.allowed;
        lawful = subst (IsLawfulWithin s.loop.limits s.loop.settings) (sym journal-whole) k.lawful;
        era = record {
          parts = refl;
          starts = inr (journal s.loop (take s.again s.session), Frame (s.loop.frames s.directive), was, o.2);
          last = subst (NoneSetsWithin s.loop.limits s.loop.settings (journal s.loop (take (suc s.again) s.session))) (sym (era-events s s.session)) k.last;
        };
        possible = possible;
      }
