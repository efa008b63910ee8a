-- The effect of a script is a function of its lines.
use Rattle.std.proofs.Common.{◌≡◌, ◌<◌, ℕ, List, [], ◌∷◌, ◌++◌, ◌⊎◌, Ok, Option, None, Some, map, length, set, slice_get, inl, inr, refl, sym, ap, ◌∙◌, subst, arith, ◌≢◌, All, Contains, IsPermutation}
use Rattle.tc_cli.proofs.Names.{Add, All-head, All-tail, Answer, AreAnswers, BeginsWith, Changes, Channel, Clcw, Does, Empty, Frame, HasChannel, History, Instruction, IsAnswerOf, IsChannelAnswer, IsClcwAnswer, IsDoneSo, IsFirstLine, IsFrameAnswer, IsFrameAnswered, IsInstructionAnswered, IsLineAnswered, IsPerformed, IsRackLocateFault, IsReleaseAnswered, IsReportOf, IsScriptReport, IsTakeAnswered, IsUnitAnswered, Linked, LocateFault, NoMap, NoQueue, Nothing, Operating, Operation, Progress, Racked, Release, SettingUp, Settings, Setup, Take, TakeUnit, Unlocated, at_first, cases_lt, header_of, histories, instruction_of, later, map-map, new_linked, nil_from_length, no-fault, none-some, one_more, option_and_then, phase_of, rack_for, report_text, same_Some, slice_get-get_or, reported_word, vcid_of, waiting_packets, waiting_units}
use Rattle.std.proofs.lemmas.List.{length_push, map_push}
use Rattle.std.proofs.lemmas.List.Sorted.{length_permutation}
use Rattle.tc_channel.specs.declared.event.Event.TheVariants as events
use Rattle.tc_link.specs.declared.frame.FrameFault.{FrameFault}
use Rattle.tc_rack.specs.Configuration.{AddsToChannel, vcids_of, with_addition}
use Rattle.tc_rack.specs.declared.instruction.Addition.{Addition}
use Rattle.tc_rack.specs.declared.instruction.Addition.TheVariants.{Queue, Map}
use Rattle.tc_link.specs.declared.location.LocateFault.TheVariants as faults
use Rattle.tc_text.specs.declared.line.Line.{Line as Said}
use Rattle.tc_cli.proofs.Happened.{IsOneAtMost}
use Rattle.tc_cli.proofs.Lists.{any-here, any-mapped, mapped-at, push-cases, same-set}
use Rattle.tc_cli.proofs.Reported.{one-order}
use Rattle.tc_cli.proofs.Scripts.{set-up}
use Rattle.tc_rack.proofs.Performed.{performed-at}
use Rattle.tc_rack.specs.declared.answer.Answer.TheVariants as answers
use Rattle.tc_rack.specs.declared.operation.Operation.TheVariants as operations

-- ---- the line that comes first

-- no octet of the line is a line feed
abbrev HasNoFeed : List ℕ → Type 0
HasNoFeed line = All (λ octet. octet ≢ 10) line

same-front : (line after other rest : List ℕ) → HasNoFeed line → HasNoFeed other → line ++ 10 ∷ after ≡ other ++ 10 ∷ rest → (line ≡ other) × (after ≡ rest)
same-front [] after [] rest one two is = (refl, cc)
same-front [] after (o ∷ other) rest one two is = absurd (All-head (λ octet. octet ≢ 10) o other two cc)
same-front (l ∷ line) after [] rest one two is = absurd (All-head (λ octet. octet ≢ 10) l line one cc)
same-front (l ∷ line) after (o ∷ other) rest one two is =
    let first : l ≡ o = cc in
    let more : line ++ 10 ∷ after ≡ other ++ 10 ∷ rest = cc in
    let t = same-front line after other rest (All-tail (λ octet. octet ≢ 10) l line one) (All-tail (λ octet. octet ≢ 10) o other two) more in
    (λ i. first i ∷ t.0 i, t.1)

no-feed : (line after other : List ℕ) → HasNoFeed other → line ++ 10 ∷ after ≡ other → ⊥
no-feed [] after [] two is = absurd cc
no-feed [] after (o ∷ other) two is = All-head (λ octet. octet ≢ 10) o other two cc
no-feed (l ∷ line) after [] two is = absurd cc
no-feed (l ∷ line) after (o ∷ other) two is =
    let more : line ++ 10 ∷ after ≡ other = cc in
    no-feed line after other (All-tail (λ octet. octet ≢ 10) o other two) more

abbrev AreParts : List ℕ → List ℕ → List ℕ → Type 0
AreParts octets line after = (octets ≡ line ++ 10 ∷ after) ⊎ ((octets ≡ line) × (after ≡ []))

same-parts : (octets line after other rest : List ℕ) → HasNoFeed line → HasNoFeed other → AreParts octets line after → AreParts octets other rest → (line ≡ other) × (after ≡ rest)
same-parts octets line after other rest one two (inl is) (inl too) = same-front line after other rest one two (sym is ∙ too)
same-parts octets line after other rest one two (inl is) (inr (too, end)) = absurd (no-feed line after other two (sym is ∙ too))
same-parts octets line after other rest one two (inr (is, end)) (inl too) = absurd (no-feed other rest line one (sym too ∙ is))
same-parts octets line after other rest one two (inr (is, end)) (inr (too, stop)) = (sym is ∙ too, end ∙ sym stop)

same-line : (octets line after other rest : List ℕ) → IsFirstLine octets line after → IsFirstLine octets other rest → (line ≡ other) × (after ≡ rest)
same-line octets line after other rest one two = same-parts octets line after other rest one.one two.one one.parts two.parts

-- ---- no two channels have the same id

-- each id occurs at one place only
abbrev pub AreApart : List ℕ → Type 0
AreApart ids = (one other vcid : ℕ) → slice_get ids one ≡ Some vcid → slice_get ids other ≡ Some vcid → one ≡ other

-- if each id occurs at one place only, two elements with the same id are at the same place, and are equal
pub same-at : {X : Type 0} (id : X → ℕ) (xs : List X) → AreApart (map id xs) → (vcid one other : ℕ) (x y : X) → slice_get xs one ≡ Some x → id x ≡ vcid → slice_get xs other ≡ Some y → id y ≡ vcid → (one ≡ other) × (x ≡ y)
same-at id xs apart vcid one other x y at is to too =
    let place = apart one other vcid (mapped-at id xs one x at ∙ ap (λ (z : ℕ). Some z) is) (mapped-at id xs other y to ∙ ap (λ (z : ℕ). Some z) too) in
    (place, same_Some x y (sym at ∙ (ap (slice_get xs) place ∙ to)))

-- distinct ids stay distinct if an id that isn't among them is added
apart-push : (ids : List ℕ) (new : ℕ) → AreApart ids → ((place : ℕ) → slice_get ids place ≡ Some new → ⊥) → AreApart (ids ++ new ∷ [])
apart-push ids new apart none one other vcid at to =
    let first = push-cases ids new vcid one at in
    let second = push-cases ids new vcid other to in
    grind (arith, apart one other vcid, none one, none other)

-- the ids of the channels that are set up so far
abbrev pub ids_of : Progress → List ℕ
ids_of (SettingUp list) = vcids_of list
ids_of (Operating rack) = map vcid_of rack.channels

pub rack-ids : (scid : ℕ) (progress : Progress) → map vcid_of (rack_for scid progress).channels ≡ ids_of progress
rack-ids scid (SettingUp list) = map-map vcid_of new_linked list
rack-ids scid (Operating rack) = refl

-- ---- the answer and the effect of an operation on a channel

-- for each state of a channel, the relation allows only one answer and only one new state
abbrev pub IsDetermined : (Linked → Answer → Linked → Type 0) → Type 0
IsDetermined Answers = (old new other : Linked) (answer another : Answer) → Answers old answer new → Answers old another other → (answer ≡ another) × (new ≡ other)

-- the relation leaves the id of a channel unchanged
abbrev pub IsIdKept : (Linked → Answer → Linked → Type 0) → Type 0
IsIdKept Answers = (old new : Linked) (answer : Answer) → Answers old answer new → vcid_of new ≡ vcid_of old

pub frame-determined : (frame : List ℕ) → IsDetermined (IsFrameAnswered frame)
frame-determined frame old new other answer another (is, next) (too, then) = (is ∙ sym too, next ∙ sym then)

pub release-determined : IsDetermined IsReleaseAnswered
release-determined old new other answer another one two = grind arith

-- either there is no queue and the answer is `without`, or the queue is empty and the answer reports that
abbrev IsNoneThere : Option (List (List ℕ)) → Answer → Answer → Type 0
IsNoneThere waiting without answer = ((waiting ≡ None) × (answer ≡ without)) ⊎ ((waiting ≡ Some []) × (answer ≡ answers.Refused Empty))

-- either the oldest item that waits is taken, or no item waits and the channel stays as it is
abbrev IsOldestTaken : Option (List (List ℕ)) → (List ℕ → Answer) → Answer → Linked → Linked → Answer → Linked → Type 0
IsOldestTaken waiting reported without next old answer new =
    ((item : List ℕ) × (option_and_then (λ items. slice_get items 0) waiting ≡ Some item) × (answer ≡ reported item) × (new ≡ next))
    ⊎ (IsNoneThere waiting without answer × (new ≡ old))

oldest-determined : (waiting : Option (List (List ℕ))) (reported : List ℕ → Answer) (without : Answer) (next old new other : Linked) (answer another : Answer)
    → IsOldestTaken waiting reported without next old answer new → IsOldestTaken waiting reported without next old another other → (answer ≡ another) × (new ≡ other)
oldest-determined waiting reported without next old new other answer another one two = grind arith

pub take-determined : (apid : ℕ) → IsDetermined (IsTakeAnswered apid)
take-determined apid old new other answer another one two =
    oldest-determined (waiting_packets old.history.settings old.history.journal apid) (λ packet. answers.Take (vcid_of old) apid packet) (answers.Refused NoQueue)
    (later (events.Take apid) old) old new other answer another one two

pub unit-determined : (map_id : ℕ) → IsDetermined (IsUnitAnswered map_id)
unit-determined map_id old new other answer another one two =
    oldest-determined (waiting_units old.history.settings old.history.journal map_id) (λ unit. answers.Unit (vcid_of old) map_id unit) (answers.Refused NoMap)
    (later (events.TakeUnit map_id) old) old new other answer another one two

pub frame-kept : (frame : List ℕ) → IsIdKept (IsFrameAnswered frame)
frame-kept frame old new answer (is, next) = ap vcid_of next

pub release-kept : IsIdKept IsReleaseAnswered
release-kept old new answer a = grind arith

pub take-kept : (apid : ℕ) → IsIdKept (IsTakeAnswered apid)
take-kept apid old new answer a = grind arith

pub unit-kept : (map_id : ℕ) → IsIdKept (IsUnitAnswered map_id)
unit-kept map_id old new answer a = grind arith

-- ---- the answer and the effect of an operation

pub change-determined : (Answers : Linked → Answer → Linked → Type 0) → IsDetermined Answers → (vcid : ℕ) (old new other : Racked) (answer another : Answer) → AreApart (map vcid_of old.channels)
    → Changes old vcid (λ before after. Answers before answer after) new → Changes old vcid (λ before after. Answers before another after) other → (answer ≡ another) × (new ≡ other)
change-determined Answers determined vcid old new other answer another apart (place, before, after, at, a, is) (second, was, then, to, b, too) =
    let same = same-at vcid_of old.channels apart vcid place second before was at.0 at.1 to.0 to.1 in
    let one = determined was after then answer another (subst (λ (c : Linked). Answers c answer after) same.1 a) b in
    let left : new ≡ record old { channels = set old.channels second then } = is ∙ (λ i. record old { channels = set old.channels (same.0 i) (one.1 i) }) in
    (one.0, left ∙ sym too)

pub change-ids : (Answers : Linked → Answer → Linked → Type 0) → IsIdKept Answers → (vcid : ℕ) (old new : Racked) (answer : Answer) → Changes old vcid (λ before after. Answers before answer after) new
    → map vcid_of new.channels ≡ map vcid_of old.channels
change-ids Answers kept vcid old new answer (place, before, after, at, a, is) =
    ap (λ (r : Racked). map vcid_of r.channels) is ∙ same-set vcid_of old.channels place before after at.0 (kept before after answer a)

not-unknown : (Becomes : Linked → Linked → Type 0) (vcid : ℕ) (old new : Racked) → Changes old vcid Becomes new → ¬ HasChannel old.channels vcid → ⊥
not-unknown Becomes vcid old new (place, before, after, at, a, is) none = none (any-here (λ (c : Linked). vcid_of c ≡ vcid) old.channels place before at.0 at.1)

pub channel-determined : (Answers : Linked → Answer → Linked → Type 0) → IsDetermined Answers → (vcid : ℕ) (old new other : Racked) (answer another : Answer) → AreApart (map vcid_of old.channels)
    → IsChannelAnswer vcid Answers old answer new → IsChannelAnswer vcid Answers old another other → (answer ≡ another) × (new ≡ other)
channel-determined Answers determined vcid old new other answer another apart (inl one) (inl two) = change-determined Answers determined vcid old new other answer another apart one two
channel-determined Answers determined vcid old new other answer another apart (inl one) (inr ((none, too), still)) =
    absurd (not-unknown (λ before after. Answers before answer after) vcid old new one none)
channel-determined Answers determined vcid old new other answer another apart (inr ((none, is), still)) (inl two) =
    absurd (not-unknown (λ before after. Answers before another after) vcid old other two none)
channel-determined Answers determined vcid old new other answer another apart (inr ((none, is), still)) (inr ((nothing, too), rests)) = (is ∙ sym too, still ∙ sym rests)

pub channel-ids : (Answers : Linked → Answer → Linked → Type 0) → IsIdKept Answers → (vcid : ℕ) (old new : Racked) (answer : Answer) → IsChannelAnswer vcid Answers old answer new
    → map vcid_of new.channels ≡ map vcid_of old.channels
channel-ids Answers kept vcid old new answer (inl change) = change-ids Answers kept vcid old new answer change
channel-ids Answers kept vcid old new answer (inr (none, still)) = ap (λ (r : Racked). map vcid_of r.channels) still

pub frame-ids : (octets : List ℕ) (old new : Racked) (answer : Answer) → IsFrameAnswer octets old answer new → map vcid_of new.channels ≡ map vcid_of old.channels
frame-ids octets old new answer (inl (frame, begins, ours, change)) = change-ids (IsFrameAnswered frame) (frame-kept frame) (header_of frame).vcid old new answer change
frame-ids octets old new answer (inr (fault, why, is, still)) = ap (λ (r : Racked). map vcid_of r.channels) still

pub operation-ids : (operation : Operation) (old new : Racked) (answer : Answer) → IsAnswerOf operation old answer new → map vcid_of new.channels ≡ map vcid_of old.channels
operation-ids (operations.Frame octets) old new answer a = frame-ids octets old new answer a
operation-ids (operations.Release vcid) old new answer a = channel-ids IsReleaseAnswered release-kept vcid old new answer a
operation-ids (operations.Take vcid apid) old new answer a = channel-ids (IsTakeAnswered apid) (take-kept apid) vcid old new answer a
operation-ids (operations.Unit vcid map_id) old new answer a = channel-ids (IsUnitAnswered map_id) (unit-kept map_id) vcid old new answer a
operation-ids (operations.Clcw vcid) old new answer (read, still) = ap (λ (r : Racked). map vcid_of r.channels) still

-- a request for a CLCW has only one answer
word-determined : (vcid : ℕ) (rack : Racked) (answer another : Answer) → AreApart (map vcid_of rack.channels) → IsClcwAnswer vcid rack answer → IsClcwAnswer vcid rack another → answer ≡ another
word-determined vcid rack answer another apart (inl (place, channel, at, is)) (inl (second, other, to, too)) =
    is ∙ (ap reported_word (same-at vcid_of rack.channels apart vcid place second channel other at.0 at.1 to.0 to.1).1 ∙ sym too)
word-determined vcid rack answer another apart (inl (place, channel, at, word)) (inr (none, too)) = absurd (none (any-here (λ (c : Linked). vcid_of c ≡ vcid) rack.channels place channel at.0 at.1))
word-determined vcid rack answer another apart (inr (none, is)) (inl (place, channel, at, word)) = absurd (none (any-here (λ (c : Linked). vcid_of c ≡ vcid) rack.channels place channel at.0 at.1))
word-determined vcid rack answer another apart (inr (none, is)) (inr (nothing, too)) = is ∙ sym too

-- ---- octets that begin with a frame, and octets that don't

module _ (only : IsOneAtMost) where
  -- octets that begin with a frame for one of the channels have no fault
  not-located : (octets frame : List ℕ) (rack : Racked) (fault : LocateFault) → BeginsWith octets frame → (header_of frame).scid ≡ rack.scid
      → ((¬ HasChannel rack.channels (header_of frame).vcid) → ⊥) → IsRackLocateFault rack octets fault → ⊥
  not-located octets frame rack (faults.Frame f) begins ours here why = none-some f (sym (no-fault octets frame begins) ∙ why)
  not-located octets frame rack faults.OtherSpacecraft begins ours here (other, from, apart) =
      apart (ap (λ (x : List ℕ). (header_of x).scid) (only octets other frame from begins) ∙ ours)
  not-located octets frame rack faults.UnknownChannel begins ours here (other, from, its, none) =
      here (subst (λ (x : List ℕ). ¬ HasChannel rack.channels (header_of x).vcid) (only octets other frame from begins) none)

  same-fault : (octets : List ℕ) (rack : Racked) (fault other : LocateFault) → IsRackLocateFault rack octets fault → IsRackLocateFault rack octets other → fault ≡ other
  same-fault octets rack (faults.Frame f) (faults.Frame g) why since = ap (λ (x : FrameFault). faults.Frame x) (same_Some f g (sym why ∙ since))
  same-fault octets rack (faults.Frame f) faults.OtherSpacecraft why (frame, begins, apart) = absurd (none-some f (sym (no-fault octets frame begins) ∙ why))
  same-fault octets rack (faults.Frame f) faults.UnknownChannel why (frame, begins, ours, none) = absurd (none-some f (sym (no-fault octets frame begins) ∙ why))
  same-fault octets rack faults.OtherSpacecraft (faults.Frame g) (frame, begins, apart) since = absurd (none-some g (sym (no-fault octets frame begins) ∙ since))
  same-fault octets rack faults.OtherSpacecraft faults.OtherSpacecraft why since = refl
  same-fault octets rack faults.OtherSpacecraft faults.UnknownChannel (frame, begins, apart) (other, from, ours, none) =
      absurd (apart (ap (λ (x : List ℕ). (header_of x).scid) (only octets frame other begins from) ∙ ours))
  same-fault octets rack faults.UnknownChannel (faults.Frame g) (frame, begins, ours, none) since = absurd (none-some g (sym (no-fault octets frame begins) ∙ since))
  same-fault octets rack faults.UnknownChannel faults.OtherSpacecraft (frame, begins, ours, none) (other, from, apart) =
      absurd (apart (ap (λ (x : List ℕ). (header_of x).scid) (only octets other frame from begins) ∙ ours))
  same-fault octets rack faults.UnknownChannel faults.UnknownChannel why since = refl

  frame-answer-determined : (octets : List ℕ) (old new other : Racked) (answer another : Answer) → AreApart (map vcid_of old.channels)
      → IsFrameAnswer octets old answer new → IsFrameAnswer octets old another other → (answer ≡ another) × (new ≡ other)
  frame-answer-determined octets old new other answer another apart (inl (frame, begins, ours, change)) (inl (second, from, too, changes)) =
      let same : second ≡ frame = only octets second frame from begins in
      let moved = subst (λ (x : List ℕ). Changes old (header_of x).vcid (λ before after. IsFrameAnswered x before another after) other) same changes in
      change-determined (IsFrameAnswered frame) (frame-determined frame) (header_of frame).vcid old new other answer another apart change moved
  frame-answer-determined octets old new other answer another apart (inl (frame, begins, ours, change)) (inr (fault, why, is, still)) =
      absurd (not-located octets frame old fault begins ours
      (not-unknown (λ before after. IsFrameAnswered frame before answer after) (header_of frame).vcid old new change) why)
  frame-answer-determined octets old new other answer another apart (inr (fault, why, is, still)) (inl (frame, begins, ours, change)) =
      absurd (not-located octets frame old fault begins ours
      (not-unknown (λ before after. IsFrameAnswered frame before another after) (header_of frame).vcid old other change) why)
  frame-answer-determined octets old new other answer another apart (inr (fault, why, is, still)) (inr (second, since, too, rests)) =
      (is ∙ (ap (λ (f : LocateFault). answers.Refused (Unlocated f)) (same-fault octets old fault second why since) ∙ sym too), still ∙ sym rests)

  pub operation-determined : (operation : Operation) (old new other : Racked) (answer another : Answer) → AreApart (map vcid_of old.channels)
      → IsAnswerOf operation old answer new → IsAnswerOf operation old another other → (answer ≡ another) × (new ≡ other)
  operation-determined (operations.Frame octets) old new other answer another apart one two = frame-answer-determined octets old new other answer another apart one two
  operation-determined (operations.Release vcid) old new other answer another apart one two =
      channel-determined IsReleaseAnswered release-determined vcid old new other answer another apart one two
  operation-determined (operations.Take vcid apid) old new other answer another apart one two =
      channel-determined (IsTakeAnswered apid) (take-determined apid) vcid old new other answer another apart one two
  operation-determined (operations.Unit vcid map_id) old new other answer another apart one two =
      channel-determined (IsUnitAnswered map_id) (unit-determined map_id) vcid old new other answer another apart one two
  operation-determined (operations.Clcw vcid) old new other answer another apart (read, still) (again, rests) =
      (word-determined vcid old answer another apart read again, still ∙ sym rests)

-- ---- the answer and the effect of a line

same-setup : (progress : Progress) (list other : List Settings) → phase_of progress ≡ Setup list → phase_of progress ≡ Setup other → other ≡ list
same-setup progress list other is too = cc

added-id : (s : Settings) (addition : Addition) → (with_addition s addition).vcid ≡ s.vcid
added-id s (Queue queue) = refl
added-id s (Map chosen) = refl

addition-determined : (list new other : List Settings) (vcid : ℕ) (addition : Addition) → AreApart (vcids_of list) → AddsToChannel list vcid addition new → AddsToChannel list vcid addition other → new ≡ other
addition-determined list new other vcid addition apart (place, s, at, allowed, is) (second, t, to, may, too) =
    let same = same-at (λ (x : Settings). x.vcid) list apart vcid place second s t at.0 at.1 to.0 to.1 in
    let left : new ≡ set list second (with_addition t addition) = is ∙ (λ i. set list (same.0 i) (with_addition (same.1 i) addition)) in
    left ∙ sym too

module _ (only : IsOneAtMost) (scid : ℕ) where
  pub done-apart : (operation : Operation) (old new : Progress) (answer : Option Answer) → AreApart (ids_of old) → IsDoneSo (IsPerformed scid) operation old answer new → AreApart (ids_of new)
  done-apart operation old new answer apart (a, performed, reported) =
      let at = performed-at scid operation old new a performed in
      let same : ids_of new ≡ ids_of old = ap ids_of at.2 ∙ (operation-ids operation (rack_for scid old) at.0 a at.1 ∙ rack-ids scid old) in
      subst AreApart (sym same) apart

  line-apart : (instruction : Instruction) (old new : Progress) (answer : Option Answer) → AreApart (ids_of old) → Does (phase_of old) instruction (phase_of new)
      → IsInstructionAnswered (IsPerformed scid) old instruction new answer → AreApart (ids_of new)
  line-apart Nothing old new answer apart does a = subst (λ (p : Progress). AreApart (ids_of p)) (sym a.1) apart
  line-apart (Channel settings) old new answer apart (list, longer, was, (none, allowed, pushed), is) a =
      let before : AreApart (vcids_of list) = subst (λ (p : Progress). AreApart (ids_of p)) (set-up old list was) apart in
      let of : Settings → ℕ = λ s. s.vcid in
      let after : AreApart (vcids_of list ++ settings.vcid ∷ []) = apart-push (vcids_of list) settings.vcid before (λ place at. none (any-mapped of list place settings.vcid at)) in
      let same : ids_of new ≡ vcids_of list ++ settings.vcid ∷ [] = ap ids_of (set-up new longer is) ∙ (ap vcids_of pushed ∙ map_push of list settings) in
      subst AreApart (sym same) after
  line-apart (Add vcid addition) old new answer apart (list, longer, was, (place, s, at, allowed, put), is) a =
      let before : AreApart (vcids_of list) = subst (λ (p : Progress). AreApart (ids_of p)) (set-up old list was) apart in
      let of : Settings → ℕ = λ s. s.vcid in
      let same : ids_of new ≡ vcids_of list =
      ap ids_of (set-up new longer is) ∙ (ap vcids_of put ∙ same-set of list place s (with_addition s addition) at.0 (added-id s addition)) in
      subst AreApart (sym same) before
  line-apart (Frame octets) old new answer apart does a = done-apart (operations.Frame octets) old new answer apart a
  line-apart (Release vcid) old new answer apart does a = done-apart (operations.Release vcid) old new answer apart a
  line-apart (Take vcid apid) old new answer apart does a = done-apart (operations.Take vcid apid) old new answer apart a
  line-apart (TakeUnit vcid map_id) old new answer apart does a = done-apart (operations.Unit vcid map_id) old new answer apart a
  line-apart (Clcw vcid) old new answer apart does a = done-apart (operations.Clcw vcid) old new answer apart a

  pub all-apart : (script : List ℕ) (answers : List (Option Answer)) (progress : Progress) (rest : List ℕ) → AreAnswers (IsPerformed scid) script answers progress rest → AreApart (ids_of progress)
  all-apart script answers progress rest at_first = λ one other vcid at to. absurd (none-some vcid at)
  all-apart script answers progress rest (one_more {answers = before} {stage = old} {answer = answer} leads next answered) =
      line-apart (instruction_of answered.0) old progress answer (all-apart script before old _ leads) answered.2 answered.3

  done-determined : (operation : Operation) (old new other : Progress) (answer another : Option Answer) → AreApart (ids_of old) → IsDoneSo (IsPerformed scid) operation old answer new
      → IsDoneSo (IsPerformed scid) operation old another other → (new ≡ other) × (answer ≡ another)
  done-determined operation old new other answer another apart (a, performed, reported) (b, done, said) =
      let at = performed-at scid operation old new a performed in
      let to = performed-at scid operation old other b done in
      let ids : AreApart (map vcid_of (rack_for scid old).channels) = subst AreApart (sym (rack-ids scid old)) apart in
      let one = operation-determined only operation (rack_for scid old) at.0 to.0 a b ids at.1 to.1 in (
        at.2 ∙ (ap (λ (r : Racked). Operating r) one.1 ∙ sym to.2),
        reported ∙ (ap (λ (x : Answer). Some x) one.0 ∙ sym said),
      )

  line-determined : (instruction : Instruction) (old new other : Progress) (answer another : Option Answer) → AreApart (ids_of old)
      → Does (phase_of old) instruction (phase_of new) → IsInstructionAnswered (IsPerformed scid) old instruction new answer
      → Does (phase_of old) instruction (phase_of other) → IsInstructionAnswered (IsPerformed scid) old instruction other another → (new ≡ other) × (answer ≡ another)
  line-determined Nothing old new other answer another apart does a did b = (a.1 ∙ sym b.1, a.0 ∙ sym b.0)
  line-determined (Channel settings) old new other answer another apart (list, longer, was, adds, is) a (first, long, before, added, too) b =
      let same : first ≡ list = same-setup old list first was before in
      let grown : longer ≡ long = adds.2 ∙ (ap (λ (l : List Settings). l ++ settings ∷ []) (sym same) ∙ sym added.2) in
      (cc (set-up new longer is, set-up other long too, grown), a ∙ sym b)
  line-determined (Add vcid addition) old new other answer another apart (list, longer, was, adds, is) a (first, long, before, added, too) b =
      let same : first ≡ list = same-setup old list first was before in
      let ids : AreApart (vcids_of list) = subst (λ (p : Progress). AreApart (ids_of p)) (set-up old list was) apart in
      let grown : longer ≡ long = addition-determined list longer long vcid addition ids adds (subst (λ (l : List Settings). AddsToChannel l vcid addition long) same added) in
      (cc (set-up new longer is, set-up other long too, grown), a ∙ sym b)
  line-determined (Frame octets) old new other answer another apart does a did b = done-determined (operations.Frame octets) old new other answer another apart a b
  line-determined (Release vcid) old new other answer another apart does a did b = done-determined (operations.Release vcid) old new other answer another apart a b
  line-determined (Take vcid apid) old new other answer another apart does a did b = done-determined (operations.Take vcid apid) old new other answer another apart a b
  line-determined (TakeUnit vcid map_id) old new other answer another apart does a did b = done-determined (operations.Unit vcid map_id) old new other answer another apart a b
  line-determined (Clcw vcid) old new other answer another apart does a did b = done-determined (operations.Clcw vcid) old new other answer another apart a b

  -- ---- all lines

  -- for each line, the progress before it allows only one answer and only one effect
  next-determined : (line : List ℕ) (old new other : Progress) (answer another : Option Answer) → AreApart (ids_of old) → IsLineAnswered (IsPerformed scid) old line new answer
      → IsLineAnswered (IsPerformed scid) old line other another → (new ≡ other) × (answer ≡ another)
  next-determined line old new other answer another apart (said, is, does, a) (again, too, did, b) =
      let same : again ≡ said = let e : Ok again ≡ Ok said = sym too ∙ is in cc in
      let moved = subst (λ (s : Said). Does (phase_of old) (instruction_of s) (phase_of other) × IsInstructionAnswered (IsPerformed scid) old (instruction_of s) other another) same (did, b) in
      line-determined (instruction_of said) old new other answer another apart does a moved.0 moved.1

  -- if the same number of lines can be carried out in two ways, both ways lead to the same progress, with the same
  -- answers
  same-way : (script : List ℕ) (answers others : List (Option Answer)) (progress other : Progress) (rest left : List ℕ) → AreAnswers (IsPerformed scid) script answers progress rest
      → AreAnswers (IsPerformed scid) script others other left → length answers ≡ length others → (rest ≡ left) × (progress ≡ other) × (answers ≡ others)
  same-way script answers others progress other rest left at_first at_first long = (refl, refl, refl)
  same-way script answers others progress other rest left at_first (one_more {answers = before} {answer = answer} leads next answered) long =
      absurd (omega (arith, long, length_push before answer))
  same-way script answers others progress other rest left (one_more {answers = before} {answer = answer} leads next answered) at_first long =
      absurd (omega (arith, long, length_push before answer))
  same-way script answers others progress other rest left
      (one_more {answers = before} {stage = old} {rest = from} {line = line} {answer = answer} leads next answered)
      (one_more {answers = prior} {stage = was} {rest = since} {line = read} {answer = another} led after reported) long =
      let fewer : length before ≡ length prior = omega (arith, long, length_push before answer, length_push prior another) in
      let one = same-way script before prior old was from since leads led fewer in
      let first : IsFirstLine from read left = subst (λ (l : List ℕ). IsFirstLine l read left) (sym one.0) after in
      let parts = same-line from line rest read left next first in
      let reported_here = subst (λ (x : Progress × List ℕ). IsLineAnswered (IsPerformed scid) x.0 x.1 other another) (λ i. (sym one.1 i, sym parts.0 i)) reported in
      let both = next-determined line old progress other answer another (all-apart script before old from leads) answered reported_here in
      (parts.1, both.0, λ i. one.2 i ++ both.1 i ∷ [])

  -- if some lines can be carried out, any smaller number of them can be carried out first, and another line follows
  shorter-way : (script : List ℕ) (answers : List (Option Answer)) (progress : Progress) (rest : List ℕ) (count : ℕ) → AreAnswers (IsPerformed scid) script answers progress rest → count < length answers
      → (first : List (Option Answer)) × (old : Progress) × (from : List ℕ) × (line : List ℕ) × (after : List ℕ)
      × AreAnswers (IsPerformed scid) script first old from × IsFirstLine from line after × (length first ≡ count)
  shorter-way script answers progress rest count at_first lt = absurd (omega (arith, lt))
  shorter-way script answers progress rest count (one_more {answers = before} {stage = old} {rest = from} {line = line} {answer = answer} leads next answered) lt =
      elim (cases_lt count (length before)) [
        | inl less ↦ shorter-way script before old from count leads less
        | inr ge ↦ (before, old, from, line, rest, leads, next, omega (arith, ge, lt, length_push before answer))
      ]

  no-shorter : (script : List ℕ) (answers others : List (Option Answer)) (progress other : Progress) → AreAnswers (IsPerformed scid) script answers progress []
      → AreAnswers (IsPerformed scid) script others other [] → length answers < length others → ⊥
  no-shorter script answers others progress other one two lt =
      let (first, old, from, line, after, leads, next, many) = shorter-way script others other [] (length answers) two lt in
      let same = same-way script answers first progress old [] from one leads (sym many) in
      let few : length after < length from = next.shorter in
      omega (arith, few, ap (length {A = ℕ}) same.0)

  pub determined : (script : List ℕ) (answers others : List (Option Answer)) (progress other : Progress) → AreAnswers (IsPerformed scid) script answers progress []
      → AreAnswers (IsPerformed scid) script others other [] → (progress ≡ other) × (answers ≡ others)
  determined script answers others progress other one two = elim (cases_lt (length answers) (length others)) [
    | inl less ↦ absurd (no-shorter script answers others progress other one two less)
    | inr ge ↦ elim (cases_lt (length others) (length answers)) [
      | inl less ↦ absurd (no-shorter script others answers other progress two one less)
      | inr le ↦ let same = same-way script answers others progress other [] [] one two (omega (arith, ge, le)) in (same.1, same.2)
    ]
  ]

-- ---- the report

-- no two channels of a script have the same id
keyed : (scid : ℕ) (progress : Progress) → AreApart (ids_of progress) → (c d : History) → Contains (histories (rack_for scid progress)) c → Contains (histories (rack_for scid progress)) d
    → c.settings.vcid ≡ d.settings.vcid → c ≡ d
keyed scid progress apart c d (i, lt, is) (j, less, too) id =
    let all = histories (rack_for scid progress) in
    let ids : map (λ (h : History). h.settings.vcid) all ≡ ids_of progress = map-map (λ (h : History). h.settings.vcid) (λ (x : Linked). x.history) (rack_for scid progress).channels ∙ rack-ids scid progress in
    let at : slice_get all i ≡ Some c = slice_get-get_or all i c lt ∙ ap (λ (h : History). Some h) is in
    let here : slice_get all j ≡ Some d = slice_get-get_or all j d less ∙ ap (λ (h : History). Some h) too in
    (same-at (λ (h : History). h.settings.vcid) all (subst AreApart (sym ids) apart) c.settings.vcid i j c d at refl here (sym id)).1

setup-report : (scid : ℕ) (progress : Progress) → phase_of progress ≡ Setup [] → histories (rack_for scid progress) ≡ []
setup-report scid progress none = ap (λ (p : Progress). histories (rack_for scid p)) (set-up progress [] none)

no-channels : (all cs : List History) (text : List ℕ) → all ≡ [] → IsPermutation all cs → IsReportOf cs text → text ≡ []
no-channels all cs text none moved of =
    let many : length cs ≡ 0 = length_permutation all cs moved ∙ ap (length {A = History}) none in
    of.written ∙ ap report_text (nil_from_length cs many)

pub one-report : (only : IsOneAtMost) (scid : ℕ) (script : List ℕ) (answers : List (Option Answer)) (progress : Progress) (text another : List ℕ)
    → AreAnswers (IsPerformed scid) script answers progress [] → IsScriptReport scid progress text → IsScriptReport scid progress another → text ≡ another
one-report only scid script answers progress text another leads (inl (none, is)) (inl (also, too)) = is ∙ sym too
one-report only scid script answers progress text another leads (inl (none, is)) (inr (cs, moved, of)) = is ∙ sym (no-channels _ cs another (setup-report scid progress none) moved of)
one-report only scid script answers progress text another leads (inr (cs, moved, of)) (inl (none, is)) = no-channels _ cs text (setup-report scid progress none) moved of ∙ sym is
one-report only scid script answers progress text another leads (inr (cs, moved, of)) (inr (ds, turned, reported)) =
    let apart = all-apart only scid script answers progress [] leads in
    let same : cs ≡ ds = one-order (histories (rack_for scid progress)) cs ds (keyed scid progress apart) moved turned of.ordered reported.ordered in
    of.written ∙ (ap report_text same ∙ sym reported.written)
