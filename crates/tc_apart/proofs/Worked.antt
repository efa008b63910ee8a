-- The course of `Examples` meets all premises of the law about courses.
use Rattle.tc_apart.proofs.Names.{Action, All-cons, All-nil, AllByRecursion, AreClosedTogether, Arrive, AtLock, AtStation, BringsAll, Event, HasMade, HasMadeNone, HaveActed, Hear, History, Idle, IsBeginning, IsClosed, IsCourse, IsEraOf, IsLawful, IsLawfulWithin, IsMergeOf, IsOther, KeepOrder, List, Moment, true, NoneSetsWithin, Other, Own, Release, Send, Some, Take, [], accounts_of, actions_of, ap, arith, buffered_fields, buffered_fields_within, clcw_within, column, drop, frame_reply, inl, inr, lawful-before, learnt, made_by, no_limits, operator_lists_of, owned, owned-other, passed_on, refl, release_reply, run_within, slice_get, so-at, some_of_first, subst, suc, sym, take, take-append-drop, zero, ℕ, ◌+◌, ◌<◌, ◌∙◌, ◌∷◌, ◌≡◌, ◌≢◌, ◌≤◌, ◌⊎◌}
use Rattle.logged_lock.specs.Log.{AreBehind}
use Rattle.tc_channel.specs.Examples as channels
use Rattle.tc_laws.specs.Loops.Examples as loops
use Rattle.tc_laws.proofs.LoopsLemmas.Starts.{allowed-2, each-premise, whole-0, whole-1, whole-2}
use Rattle.tc_apart.specs.Examples as example

-- ---- the journal

lawful : IsLawful (channels.buffer_of 2) example.closed_journal
unfolding IsLawfulWithin some_of_first passed_on no_limits
lawful =
    let packet : List ℕ = 0x10 ∷ 0x05 ∷ 0xc0 ∷ 0x00 ∷ 0x00 ∷ 0x00 ∷ 0xaa ∷ [] in (
      (whole-0, refl),
      (
        (whole-0, refl),
        (
          (whole-1, refl),
          (
            omega arith,
            (
              (whole-2 0, refl),
              (
                omega arith,
                (
                  (0, record { key = 5; capacity = 1; admitted = packet ∷ []; taken = 0 }, omega arith, refl, (refl, omega arith)),
                  ((whole-2 1, refl), (omega arith, ((0, record { key = 5; capacity = 1; admitted = packet ∷ packet ∷ []; taken = 1 }, omega arith, refl, (refl, omega arith)), tt))),
                ),
              ),
            ),
          ),
        ),
      ),
    )

lawful-to : (n : ℕ) → IsLawful (channels.buffer_of 2) (take n example.closed_journal)
lawful-to n =
    lawful-before no_limits (channels.buffer_of 2) (take n example.closed_journal) (drop n example.closed_journal)
    (subst (λ (es : List Event). IsLawful (channels.buffer_of 2) es) (sym (take-append-drop n example.closed_journal)) lawful)

none-sets : NoneSetsWithin no_limits (channels.buffer_of 2) (take 3 example.closed_journal) (drop 3 example.closed_journal)
unfolding run_within some_of_first passed_on no_limits
none-sets zero e h = let q : Release ≡ e = cc in rw (← q) refl
none-sets (suc zero) e h = let q : example.frame_0 ≡ e = cc in rw (← q) refl
none-sets (suc (suc zero)) e h = let q : Release ≡ e = cc in rw (← q) refl
none-sets (suc (suc (suc zero))) e h = let q : Take 5 ≡ e = cc in rw (← q) refl
none-sets (suc (suc (suc (suc zero)))) e h = let q : example.frame_1 ≡ e = cc in rw (← q) refl
none-sets (suc (suc (suc (suc (suc zero))))) e h = let q : Release ≡ e = cc in rw (← q) refl
none-sets (suc (suc (suc (suc (suc (suc zero)))))) e h = let q : Take 5 ≡ e = cc in rw (← q) refl
none-sets (suc (suc (suc (suc (suc (suc (suc i))))))) e h = absurd cc

pub era-met : IsEraOf example.course example.channel
unfolding run_within some_of_first passed_on no_limits
era-met = record {
  allowed = allowed-2;
  lawful = lawful;
  later = drop 3 example.closed_journal;
  era = record { parts = refl; starts = inr (take 2 example.closed_journal, example.set_to_9, refl, refl); last = none-sets };
}

-- ---- the close

none-owned : (k at : ℕ) (os : List ℕ) (es : List Event) → AllByRecursion (λ (o : ℕ). o ≢ k) os → owned k at os es ≡ []
none-owned k at [] es all = refl
none-owned k at (o ∷ os) [] all = refl
none-owned k at (o ∷ os) (e ∷ es) all = owned-other k at o os e es all.0 ∙ none-owned k (suc at) os es all.1

abbrev owners : List ℕ
owners = 0 ∷ 1 ∷ 1 ∷ 1 ∷ 0 ∷ 1 ∷ 1 ∷ 0 ∷ 0 ∷ 1 ∷ []

abbrev accounts : List Own
accounts = accounts_of (column 0 (operator_lists_of example.operators))

merge : IsMergeOf example.closed_journal accounts
merge = record { owners = owners; long = refl; parts = parts } where
  parts : (k : ℕ) → owned k 0 owners example.closed_journal ≡ made_by accounts k
  parts zero = refl
  parts (suc zero) = refl
  parts (suc (suc k)) =
      let none : 0 ≢ suc (suc k) = λ e. absurd (omega (arith, e)) in
      let one : 1 ≢ suc (suc k) = λ e. absurd (omega (arith, e)) in
      none-owned (suc (suc k)) 0 owners example.closed_journal (none, (one, (one, (one, (none, (one, (one, (none, (none, (one, tt))))))))))

abbrev at-close : Moment
at-close = record { head = example.head; entries = example.closed_journal }

behind : AreBehind accounts at-close
behind zero a at =
    let one : (example.desk 9 ((0, example.earlier) ∷ (4, example.frame_0) ∷ (7, example.frame_1) ∷ (8, Release) ∷ [])).own ≡ a = cc in
    subst (λ (o : Own). IsBeginning o.seen at-close) one (refl, (Take 5 ∷ [], refl))
behind (suc zero) a at =
    let one : (example.desk 10 ((1, example.earlier) ∷ (2, example.set_to_9) ∷ (3, Release) ∷ (5, Release) ∷ (6, Take 5) ∷ (9, Take 5) ∷ [])).own ≡ a = cc in
    subst (λ (o : Own). IsBeginning o.seen at-close) one (refl, ([], refl))
behind (suc (suc k)) a at = absurd cc

abbrev owned_desk : AtLock
owned_desk = record { lock = example.lock; own = record { seen = record { head = example.head; entries = [] }; made = []; issued = 2 } }

closed-so : IsClosed owned_desk (column 0 (operator_lists_of example.operators)) example.channel
closed-so = record { settings = refl; balanced = (refl, omega arith); merge = merge; seen = behind }

pub closed-met : AreClosedTogether example.station example.operators (example.channel ∷ [])
closed-met = (
  owned_desk ∷ [],
  (refl, refl, All-cons (λ (i : ℕ). i ≡ 2) 2 [] refl (All-nil (λ (i : ℕ). i ≡ 2))),
  record { as_many = refl; each = each },
) where
  each : (place : ℕ) (k : AtLock) (h : History) → slice_get (owned_desk ∷ []) place ≡ Some k → slice_get (example.channel ∷ []) place ≡ Some h
      → IsClosed k (column place (operator_lists_of example.operators)) h
  each zero k h at out =
      let one : owned_desk ≡ k = cc in
      let two : example.channel ≡ h = cc in
      subst (λ (x : AtLock). IsClosed x (column 0 (operator_lists_of example.operators)) h) one (subst (λ (x : History). IsClosed owned_desk (column 0 (operator_lists_of example.operators)) x) two closed-so)
  each (suc place) k h at out = absurd cc

-- ---- the calls of the first thread

brings-0 : HasMade true 0 1 example.at_first example.frame_0 example.with_frame_0
brings-0 = (
  frame_reply (channels.buffer_of 2) (take 4 example.closed_journal) (loops.around 9 2),
  record {
    at = record {
      there = example.desk 1 ((0, example.earlier) ∷ []);
      next = example.desk 5 ((0, example.earlier) ∷ (4, example.frame_0) ∷ []);
      was = refl;
      named = refl;
      call = record {
        now = record { head = example.head; entries = take 4 example.closed_journal };
        later = (refl, (example.earlier ∷ example.set_to_9 ∷ Release ∷ [], refl));
        moment = (allowed-2, lawful-to 4);
        lock = refl;
        answer = ((refl, (refl, ([], refl))), refl);
      };
      others = refl;
      vcids = refl;
    };
    met = (refl, refl);
  },
)

reads-clcw : HasMadeNone 0 example.with_frame_0 example.with_clcw
reads-clcw = record {
  before = example.desk 5 ((0, example.earlier) ∷ (4, example.frame_0) ∷ []);
  after = example.desk 5 ((0, example.earlier) ∷ (4, example.frame_0) ∷ []);
  was = refl;
  is = refl;
  same = refl;
  later = (refl, (Release ∷ [], refl));
}

brings-1 : HasMade true 0 1 example.with_clcw example.frame_1 example.with_frame_1
brings-1 = (
  frame_reply (channels.buffer_of 2) (take 7 example.closed_journal) (loops.around 9 3),
  record {
    at = record {
      there = example.desk 5 ((0, example.earlier) ∷ (4, example.frame_0) ∷ []);
      next = example.desk 8 ((0, example.earlier) ∷ (4, example.frame_0) ∷ (7, example.frame_1) ∷ []);
      was = refl;
      named = refl;
      call = record {
        now = record { head = example.head; entries = take 7 example.closed_journal };
        later = (refl, (Release ∷ Take 5 ∷ [], refl));
        moment = (allowed-2, lawful-to 7);
        lock = refl;
        answer = ((refl, (refl, (Take 5 ∷ [], refl))), refl);
      };
      others = refl;
      vcids = refl;
    };
    met = (refl, refl);
  },
)

waits : buffered_fields (channels.buffer_of 2) (take 8 example.closed_journal) ≢ []
unfolding buffered_fields_within run_within some_of_first passed_on no_limits
waits e = absurd cc

releases : HasMade true 0 1 example.with_frame_1 Release example.at_last
releases = (
  release_reply (channels.buffer_of 2) (take 8 example.closed_journal),
  record {
    at = record {
      there = example.desk 8 ((0, example.earlier) ∷ (4, example.frame_0) ∷ (7, example.frame_1) ∷ []);
      next = example.desk 9 ((0, example.earlier) ∷ (4, example.frame_0) ∷ (7, example.frame_1) ∷ (8, Release) ∷ []);
      was = refl;
      named = refl;
      call = record {
        now = record { head = example.head; entries = take 8 example.closed_journal };
        later = (refl, ([], refl));
        moment = (allowed-2, lawful-to 8);
        lock = refl;
        answer = (((waits, refl), (refl, ([], refl))), refl);
      };
      others = refl;
      vcids = refl;
    };
    met = (refl, refl);
  },
)

-- ---- the sender and the links

-- A condition that the action of the course at this moment meets. An event must only be no Type-AD frame.
abbrev IsAt : ℕ → Action → Type 0
IsAt t (Send i) = ((t ≡ 0) × (i ≡ 0)) ⊎ ((t ≡ 4) × (i ≡ 1))
IsAt t (Arrive i s) = ((t ≡ 1) × (i ≡ 0) × (s ≡ 0)) ⊎ ((t ≡ 5) × (i ≡ 1) × (s ≡ 4))
IsAt t (Hear m) = (t ≡ 3) × (m ≡ 3)
IsAt t (Other e) = IsOther e
IsAt t Idle = Unit {0}

at : (t : ℕ) (a : Action) → slice_get (actions_of example.course) t ≡ Some a → IsAt t a
at t a e = so-at IsAt (actions_of example.course) t a
    (inl (refl, refl), (inl (refl, refl, refl), (tt, ((refl, refl), (inr (refl, refl), (inr (refl, refl, refl), (tt, tt))))))) e

pub none-learnt : learnt example.course 3 ≡ 0
none-learnt = refl

pub one-learnt : learnt example.course 4 ≡ 1
unfolding run_within some_of_first passed_on no_limits clcw_within
one-learnt = refl

sends : (t i : ℕ) → IsAt t (Send i) → (learnt example.course t ≤ i) × (i < learnt example.course t + 5)
sends t i (inl p) = let none : learnt example.course 0 ≡ 0 = refl in rw (p.0, p.1) (omega (arith, none), omega (arith, none))
sends t i (inr p) = rw (p.0, p.1) (omega (arith, one-learnt), omega (arith, one-learnt))

arrived : (t i s : ℕ) → IsAt t (Arrive i s) → (s < t) × (slice_get (actions_of example.course) s ≡ Some (Send i))
arrived t i s (inl p) = rw (p.0, p.1, p.2) (omega arith, refl)
arrived t i s (inr p) = rw (p.0, p.1, p.2) (omega arith, refl)

in-order : KeepOrder (actions_of example.course)
in-order = record {
  arrives = λ t i s e. arrived t i s (at t (Arrive i s) e);
  hears = λ t m e. let p = at t (Hear m) e in omega (arith, p.0, p.1);
  frames_in_order = λ t u i j s r order e f. let p = at t (Arrive i s) e in let q = at u (Arrive j r) f in grind arith;
  reports_in_order = λ t u m n order e f. let p = at t (Hear m) e in let q = at u (Hear n) f in omega (arith, p.1, q.1);
}

acted : HaveActed true 0 1 example.at_first example.course.turns example.came
acted = (
  [],
  example.came,
  refl,
  (refl, refl),
  (
    example.frame_0 ∷ [],
    example.frame_1 ∷ Release ∷ [],
    refl,
    (example.frame_0, refl, brings-0),
    (
      [],
      example.frame_1 ∷ Release ∷ [],
      refl,
      (refl, reads-clcw),
      (
        [],
        example.frame_1 ∷ Release ∷ [],
        refl,
        (refl, refl),
        (
          [],
          example.frame_1 ∷ Release ∷ [],
          refl,
          (refl, refl),
          (
            example.frame_1 ∷ [],
            Release ∷ [],
            refl,
            (example.frame_1, refl, brings-1),
            (Release ∷ [], [], refl, (Release, refl, releases), refl),
          ),
        ),
      ),
    ),
  ),
)

pub course-met : IsCourse true 0 example.course example.came
course-met = record {
  window = omega arith;
  numbered = λ i. let n = each-premise.numbered i in record { whole = n.whole; bypass = n.bypass; control = n.control; ns = n.ns };
  acted = acted;
  sends = λ t i e. sends t i (at t (Send i) e);
  links = in-order;
  others = λ t e here. at t (Other e) here;
}

-- ---- the two operators

others-so : (k : ℕ) (other : AtStation) (d : AtLock) → k ≢ 0 → slice_get example.operators k ≡ Some other → slice_get other.desks 0 ≡ Some d
    → AllByRecursion (λ (p : ℕ × Event). 3 ≤ p.0 → IsOther p.1) d.own.made
others-so zero other d apart among there = absurd (apart refl)
others-so (suc zero) other d apart among there =
    let one : example.second ≡ other = cc in
    let here : slice_get example.second.desks 0 ≡ Some d = ap (λ (o : AtStation). slice_get o.desks 0) one ∙ there in
    let two : example.desk 10 ((1, example.earlier) ∷ (2, example.set_to_9) ∷ (3, Release) ∷ (5, Release) ∷ (6, Take 5) ∷ (9, Take 5) ∷ []) ≡ d = cc in
    subst (λ (x : AtLock). AllByRecursion (λ (p : ℕ × Event). 3 ≤ p.0 → IsOther p.1) x.own.made) two
    (λ low. absurd (omega (arith, low)), (λ low. absurd (omega (arith, low)), (λ low. tt, (λ low. tt, (λ low. tt, (λ low. tt, tt))))))
others-so (suc (suc k)) other d apart among there = absurd cc

pub brings-met : BringsAll 0 example.course example.operators 0
brings-met = record {
  among = refl;
  seen = (Release ∷ [], refl);
  desk = example.desk 1 ((0, example.earlier) ∷ []);
  there = refl;
  early = (λ low. absurd (omega (arith, low)), tt);
  last = example.desk 9 ((0, example.earlier) ∷ (4, example.frame_0) ∷ (7, example.frame_1) ∷ (8, Release) ∷ []);
  here = refl;
  met = (refl, refl);
  others = others-so;
}
