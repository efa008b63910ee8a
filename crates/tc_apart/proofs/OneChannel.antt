-- Operations on several channels, seen from one of them.
use Rattle.tc_apart.proofs.Names.{Answer, Answered, AreApart, AreChannelsApart, ArePerformed, BeginsWith, Bool, Changes, Clcw, HasChannel, IsAnswerOf, IsChannelAnswer, IsChannelAt, IsClcwAnswer, IsFrameAnswer, IsFrameAnswered, IsIdKept, IsOf, IsOneAtMost, IsReleaseAnswered, IsTakeAnswered, IsUnitAnswered, Linked, List, Operation, Racked, [], answers_frame, any-here, ap, arith, eqb-false, eqb-true, false, filter, frame-determined, frame-kept, get_or_from_slice_get, header_of, inl, inr, is_on, is_own, map, operation-ids, operation_of, refl, release-determined, release-kept, reported_word, same-at, same_Some, set-elsewhere, set-there, slice_get, slice_get_within, slice_set, subst, sym, take-determined, take-kept, true, unit-determined, unit-kept, unmapped, vcid_of, ℕ, ◌==◌, ◌∙◌, ◌∷◌, ◌≡◌, ◌≢◌, cases_order}
use Rattle.tc_rack.specs.declared.operation.Operation.TheVariants.{Frame, Release, Take, Unit as TakeUnit}

-- no id occurs at two places
ids-apart : (channels : List Linked) → AreChannelsApart channels → AreApart (map vcid_of channels)
ids-apart channels apart p q vcid at to =
    let (c, here, its) = unmapped vcid_of channels p vcid at in
    let (d, there, too) = unmapped vcid_of channels q vcid to in
    let one = ap vcid_of (get_or_from_slice_get channels p c c here) ∙ its in
    let other = ap vcid_of (get_or_from_slice_get channels q d c there) ∙ too in
    elim (cases_order p q) [
      | inl same ↦ same
      | inr (inl below) ↦ absurd (apart p q c below (slice_get_within channels q d there) (one ∙ sym other))
      | inr (inr above) ↦ absurd (apart q p c above (slice_get_within channels p c here) (other ∙ sym one))
    ]

-- the channel gives this answer to an operation on it, and is then in this state
abbrev IsAnsweredOn : Operation → Linked → Answer → Linked → Type 0
IsAnsweredOn (Frame octets) old answer new = (frame : List ℕ) × BeginsWith octets frame × IsFrameAnswered frame old answer new
IsAnsweredOn (Release vcid) old answer new = IsReleaseAnswered old answer new
IsAnsweredOn (Take vcid apid) old answer new = IsTakeAnswered apid old answer new
IsAnsweredOn (TakeUnit vcid map_id) old answer new = IsUnitAnswered map_id old answer new
IsAnsweredOn (Clcw vcid) old answer new = (answer ≡ reported_word old) × (new ≡ old)

-- if the operation was on this channel, the channel is as the operation leaves it, and otherwise it is unchanged
abbrev IsLeft : Bool → Operation → Linked → Answer → Linked → Type 0
IsLeft true operation old answer new = IsAnsweredOn operation old answer new
IsLeft false operation old answer new = new ≡ old

-- after an operation, the channel with this id is still at its place, and is as the operation leaves it
abbrev IsStep : Operation → Answer → Racked → ℕ → ℕ → Linked → Type 0
IsStep operation answer new vcid p c = (later : Linked) × IsChannelAt new.channels vcid p later × IsLeft (is_on vcid operation answer) operation c answer later

module _ (operation : Operation) (answer : Answer) (old new : Racked) (vcid p : ℕ) (c : Linked) (apart : AreApart (map vcid_of old.channels)) (here : IsChannelAt old.channels vcid p c) where
  -- if nothing has changed, the channel is still at its place
  stays : new ≡ old → (is_on vcid operation answer ≡ true → IsAnsweredOn operation c answer c) → IsStep operation answer new vcid p c
  stays same own = (c, subst (λ (r : Racked). IsChannelAt r.channels vcid p c) (sym same) here, by (is_on vcid operation answer) own) where
    by : (b : Bool) → (b ≡ true → IsAnsweredOn operation c answer c) → IsLeft b operation c answer c
    by true says = says refl
    by false says = refl

  -- the id of a channel that is in the list isn't unknown
  not-unknown : (own : ℕ) → own ≡ vcid → ¬ HasChannel old.channels own → ⊥
  not-unknown own same none = none (any-here (λ (x : Linked). vcid_of x ≡ own) old.channels p c here.0 (here.1 ∙ sym same))

  changed : (own : ℕ) (Answers : Linked → Answer → Linked → Type 0) → IsIdKept Answers
      → ((x y : Linked) → vcid_of x ≡ own → Answers x answer y → (is_on vcid operation answer ≡ (own == vcid)) × IsAnsweredOn operation x answer y)
      → Changes old own (λ x y. Answers x answer y) new → IsStep operation answer new vcid p c
  changed own Answers kept says (q, before, after, at, done, left) = by (own == vcid) refl where
    put : (b : Bool) (later : Linked) → (own == vcid) ≡ b → IsChannelAt (slice_set old.channels q after) vcid p later → IsLeft b operation c answer later → IsStep operation answer new vcid p c
    put b later e there so = (later, subst (λ (r : Racked). IsChannelAt r.channels vcid p later) (sym left) there, subst (λ (t : Bool). IsLeft t operation c answer later) (sym ((says before after at.1 done).0 ∙ e)) so)

    by : (b : Bool) → (own == vcid) ≡ b → IsStep operation answer new vcid p c
    by true e =
        let is = eqb-true own vcid e in
        let same = same-at vcid_of old.channels apart vcid p q c before here.0 here.1 at.0 (at.1 ∙ is) in
        put true after e (ap (slice_get (slice_set old.channels q after)) same.0 ∙ set-there old.channels q before after at.0, kept before after answer done ∙ at.1 ∙ is)
        (subst (λ (x : Linked). IsAnsweredOn operation x answer after) (sym same.1) (says before after at.1 done).1)
    by false e =
        let elsewhere : p ≢ q = λ same. eqb-false own vcid e (sym at.1 ∙ ap vcid_of (same_Some before c (sym at.0 ∙ ap (slice_get old.channels) (sym same) ∙ here.0)) ∙ here.1) in
        put false c e (set-elsewhere old.channels q p after elsewhere ∙ here.0, here.1) refl

  answered : (own : ℕ) (Answers : Linked → Answer → Linked → Type 0) → IsIdKept Answers → is_on vcid operation answer ≡ (own == vcid) → ((x y : Linked) → Answers x answer y → IsAnsweredOn operation x answer y)
      → IsChannelAnswer own Answers old answer new → IsStep operation answer new vcid p c
  answered own Answers kept on says (inl change) = changed own Answers kept (λ x y its h. (on, says x y h)) change
  answered own Answers kept on says (inr unknown) = stays unknown.1 (λ e. absurd (not-unknown own (eqb-true own vcid (sym on ∙ e)) unknown.0.0))

framed : (octets : List ℕ) (answer : Answer) (old new : Racked) (vcid p : ℕ) (c : Linked) → AreApart (map vcid_of old.channels) → IsChannelAt old.channels vcid p c → IsFrameAnswer octets old answer new
    → IsStep (Frame octets) answer new vcid p c
framed octets answer old new vcid p c apart here (inl (frame, begins, ours, change)) =
    changed (Frame octets) answer old new vcid p c apart here (header_of frame).vcid (IsFrameAnswered frame) (frame-kept frame)
    (λ x y its h. (ap (answers_frame vcid) h.0 ∙ ap (λ (v : ℕ). v == vcid) its, (frame, begins, h))) change
framed octets answer old new vcid p c apart here (inr (fault, why, refused, same)) =
    stays (Frame octets) answer old new vcid p c apart here same (λ e. absurd (let none : false ≡ true = ap (answers_frame vcid) (sym refused) ∙ e in cc))

step : (operation : Operation) (answer : Answer) (old new : Racked) (vcid p : ℕ) (c : Linked) → AreApart (map vcid_of old.channels) → IsChannelAt old.channels vcid p c → IsAnswerOf operation old answer new
    → IsStep operation answer new vcid p c
step (Frame octets) answer old new vcid p c apart here is = framed octets answer old new vcid p c apart here is
step (Release own) answer old new vcid p c apart here is = answered (Release own) answer old new vcid p c apart here own IsReleaseAnswered release-kept refl (λ x y h. h) is
step (Take own apid) answer old new vcid p c apart here is = answered (Take own apid) answer old new vcid p c apart here own (IsTakeAnswered apid) (take-kept apid) refl (λ x y h. h) is
step (TakeUnit own map_id) answer old new vcid p c apart here is = answered (TakeUnit own map_id) answer old new vcid p c apart here own (IsUnitAnswered map_id) (unit-kept map_id) refl (λ x y h. h) is
step (Clcw own) answer old new vcid p c apart here is = stays (Clcw own) answer old new vcid p c apart here is.1 (λ e. word (eqb-true own vcid e) is.0) where
  word : own ≡ vcid → IsClcwAnswer own old answer → (answer ≡ reported_word c) × (c ≡ c)
  word same (inl (q, d, at, reported)) = (reported ∙ ap reported_word (same-at vcid_of old.channels apart vcid q p d c at.0 (at.1 ∙ same) here.0 here.1).1, refl)
  word same (inr unknown) = absurd (not-unknown (Clcw own) answer old new vcid p c apart here own same unknown.0)

-- operations on one channel were answered, one after the other
abbrev pub AreAnsweredOn : List Answered → Linked → Linked → Type 0
AreAnsweredOn [] old new = new ≡ old
AreAnsweredOn (d ∷ done) old new = (mid : Linked) × IsAnsweredOn d.operation old d.answer mid × AreAnsweredOn done mid new

-- after all operations, the channel is still at its place, in the state in which its own operations alone leave it
abbrev pub IsSeen : List Answered → Racked → ℕ → ℕ → Linked → Type 0
IsSeen done new vcid p c = (last : Linked) × IsChannelAt new.channels vcid p last × AreAnsweredOn (filter (is_own vcid) done) c last

pub seen-from : (done : List Answered) (old new : Racked) (vcid p : ℕ) (c : Linked) → AreApart (map vcid_of old.channels) → IsChannelAt old.channels vcid p c → ArePerformed done old new → IsSeen done new vcid p c
seen-from [] old new vcid p c apart here is = (c, subst (λ (r : Racked). IsChannelAt r.channels vcid p c) (sym is) here, refl)
seen-from (d ∷ done) old new vcid p c apart here (next, first, rest) =
    let (later, at, left) = step d.operation d.answer old next vcid p c apart here first in
    by later (is_on vcid d.operation d.answer) refl left (seen-from done next new vcid p later (subst AreApart (sym (operation-ids d.operation old next d.answer first)) apart) at rest)
  where
    by : (later : Linked) (b : Bool) → is_on vcid d.operation d.answer ≡ b → IsLeft b d.operation c d.answer later → IsSeen done new vcid p later → IsSeen (d ∷ done) new vcid p c
    by later true e left (last, at, own) = (last, at, rw e (later, left, own))
    by later false e left (last, at, own) = (last, at, rw e (subst (λ (x : Linked). AreAnsweredOn (filter (is_own vcid) done) x last) left own))

determined : IsOneAtMost → (operation : Operation) (old x y : Linked) (a b : Answer) → IsAnsweredOn operation old a x → IsAnsweredOn operation old b y → (a ≡ b) × (x ≡ y)
determined alone (Frame octets) old x y a b (f, begins, h) (g, other, k) = frame-determined g old x y a b (subst (λ (f : List ℕ). IsFrameAnswered f old a x) (alone octets f g begins other) h) k
determined alone (Release vcid) old x y a b p q = release-determined old x y a b p q
determined alone (Take vcid apid) old x y a b p q = take-determined apid old x y a b p q
determined alone (TakeUnit vcid map_id) old x y a b p q = unit-determined map_id old x y a b p q
determined alone (Clcw vcid) old x y a b p q = (p.0 ∙ sym q.0, p.1 ∙ sym q.1)

pub determined-all : IsOneAtMost → (one other : List Answered) (old x y : Linked) → AreAnsweredOn one old x → AreAnsweredOn other old y → map operation_of one ≡ map operation_of other → (one ≡ other) × (x ≡ y)
determined-all alone [] [] old x y p q e = (refl, p ∙ sym q)
determined-all alone [] (d ∷ other) old x y p q e = absurd cc
determined-all alone (d ∷ one) [] old x y p q e = absurd cc
determined-all alone (d ∷ one) (f ∷ other) old x y p q e =
    let operation : d.operation ≡ f.operation = cc in
    let more : map operation_of one ≡ map operation_of other = cc in
    let s = determined alone f.operation old p.0 q.0 d.answer f.answer (subst (λ (o : Operation). IsAnsweredOn o old d.answer p.0) operation p.1) q.1 in
    let rest = determined-all alone one other q.0 x y (subst (λ (m : Linked). AreAnsweredOn one m x) s.1 p.2) q.2 more in
    ((λ i. record { operation = operation i; answer = s.0 i } ∷ rest.0 i), rest.1)

-- No two channels of a rack have one id. If two racks have a channel in the same state, and both lists have the same
-- operations on it, these operations have the same answers, and afterwards both racks have the channel in the same
-- state.
pub both-seen : IsOneAtMost → (vcid : ℕ) (one other : List Answered) (a after b behind : Racked) (channel : Linked) → AreChannelsApart a.channels → AreChannelsApart b.channels
    → IsOf a vcid (λ c. c ≡ channel) → IsOf b vcid (λ c. c ≡ channel) → ArePerformed one a after → ArePerformed other b behind
    → map operation_of (filter (is_own vcid) one) ≡ map operation_of (filter (is_own vcid) other)
    → (filter (is_own vcid) one ≡ filter (is_own vcid) other) × ((last : Linked) × IsOf after vcid (λ c. c ≡ last) × IsOf behind vcid (λ c. c ≡ last))
both-seen alone vcid one other a after b behind channel apart_a apart_b (p, c, of_a, is) (q, d, of_b, too) done_a done_b same =
    let (x, at, own) = seen-from one a after vcid p c (ids-apart a.channels apart_a) of_a done_a in
    let (y, to, its) = seen-from other b behind vcid q d (ids-apart b.channels apart_b) of_b done_b in
    let e = determined-all alone (filter (is_own vcid) one) (filter (is_own vcid) other) channel x y
    (subst (λ (k : Linked). AreAnsweredOn (filter (is_own vcid) one) k x) is own) (subst (λ (k : Linked). AreAnsweredOn (filter (is_own vcid) other) k y) too its) same in
    (e.0, (x, (p, x, at, refl), (q, y, to, sym e.1)))

settings-kept : (operation : Operation) (old new : Linked) (answer : Answer) → IsAnsweredOn operation old answer new → new.history.settings ≡ old.history.settings
settings-kept (Frame octets) old new answer a = ap (λ (c : Linked). c.history.settings) a.2.1
settings-kept (Release vcid) old new answer a = grind arith
settings-kept (Take vcid apid) old new answer a = grind arith
settings-kept (TakeUnit vcid map_id) old new answer a = grind arith
settings-kept (Clcw vcid) old new answer a = ap (λ (c : Linked). c.history.settings) a.1

pub all-kept : (done : List Answered) (old new : Linked) → AreAnsweredOn done old new → new.history.settings ≡ old.history.settings
all-kept [] old new is = ap (λ (c : Linked). c.history.settings) is
all-kept (d ∷ done) old new (mid, first, rest) = all-kept done mid new rest ∙ settings-kept d.operation old mid d.answer first
