-- The jobs of a script, sorted by their channels, and its progress as a function of its lines alone. Each list has
-- exactly the jobs that make the journal of its channel.
use Rattle.std.proofs.Common.{◌≡◌, ℕ, zero, suc, ◌+◌, List, [], ◌∷◌, ◌++◌, ◌⊎◌, Option, None, Some, map, length, inl, inr, refl, sym, ap, ◌∙◌, subst, arith, ◌≢◌, AllPairs, Contains, slice_get, slice_set}
use Rattle.tc_cli.proofs.Names.{Add, Answer, AreAnswers, AreParted, ArePartedFor, Channel, Clcw, Does, Empty, Event, Frame, GivesToFound, HasChannel, Instruction, IsAnswerOf, IsChannelAnswer, IsClcwAnswer, IsDoneSo, IsFrameAnswer, IsFrameAnswered, IsFrameGiven, IsGiven, IsInstructionAnswered, IsParted, IsPerformed, IsRackLocateFault, IsReleaseAnswered, IsTakeAnswered, IsUnitAnswered, Job, Linked, LocateFault, NoMap, NoQueue, Nothing, Operating, Operation, Order, Parted, Phase, Plan, Progress, Racked, Release, SettingUp, Settings, Take, TakeUnit, Unlocated, WorkList, at_first, buffered_fields, empty_list, eqb_tells, header_of, instruction_of, later, length-map, map-map, new_linked, new_rack, none_parted, one_more, one_parted, option_and_then, phase_of, rack-found, rack_for, settings_in, slice_get-get_or, slice_get_within, reported_word, vcid_of, waiting_packets, waiting_units, with_job}
use Rattle.std.proofs.lemmas.List.{map-id}
use Rattle.tc_channel.specs.Reply.{frame_reply, release_reply}
use Rattle.tc_channel.specs.declared.event.Event.TheVariants as events
use Rattle.tc_station.specs.Location as at_station
use Rattle.tc_link.specs.declared.location.LocateFault.TheVariants as faults
use Rattle.tc_station.specs.declared.work.Order.TheVariants as orders
use Rattle.tc_cli.specs.Parting.{IsNewlyParted, HasWorkList}
use Rattle.tc_rack.specs.Rack.{IsChannelAt}
use Rattle.tc_rack.specs.declared.answer.Answer.TheVariants as answers
use Rattle.tc_rack.specs.declared.answer.Refusal.TheVariants.{UnknownChannel}
use Rattle.tc_rack.specs.declared.operation.Operation.TheVariants as operations
use Rattle.tc_cli.proofs.Happened.{AllHappen, Happens, one-more-happens}
use Rattle.tc_cli.proofs.Lists.{any-contains, any-mapped, element, same-at, same-set, set-at, set-elsewhere, unmapped}
use Rattle.tc_cli.proofs.Scripts.{set-up}
use Rattle.tc_cli.proofs.Stations.{new-ordered}

-- ---- lists

nil-or-not : {X : Type 0} (xs : List X) → (xs ≡ []) ⊎ (xs ≢ [])
nil-or-not [] = inl refl
nil-or-not (x ∷ xs) = inr (λ e. absurd cc)

-- the first item that waits, if there is one
abbrev first_waiting : Option (List (List ℕ)) → Option (List ℕ)
first_waiting o = option_and_then (λ items. slice_get items 0) o

waits-or-not : (o : Option (List (List ℕ))) → ((item : List ℕ) × (first_waiting o ≡ Some item)) ⊎ ((o ≡ None) ⊎ (o ≡ Some []))
waits-or-not None = inr (inl refl)
waits-or-not (Some []) = inr (inr refl)
waits-or-not (Some (item ∷ items)) = inl (item, refl)

-- ---- a plan, and the channels of the lines so far

pub record IsPlanned (parted : Parted) (rack : Racked) : Type 0 where
  pub spacecraft : rack.scid ≡ parted.station.scid
  pub ids : map vcid_of rack.channels ≡ parted.station.vcids
  pub lists : map (λ (l : WorkList). l.vcid) parted.lists ≡ parted.station.vcids
  pub settings : map (λ (c : Linked). c.history.settings) rack.channels ≡ settings_in parted.station
  pub distinct : AllPairs (λ (a b : ℕ). a ≢ b) parted.station.vcids
  pub jobs : (place : ℕ) (l : WorkList) (c : Linked) → slice_get parted.lists place ≡ Some l → slice_get rack.channels place ≡ Some c
      → AllHappen parted.station.scid l.vcid c.history.settings l.jobs [] c.history.journal

as-many-lists : (parted : Parted) (rack : Racked) → IsPlanned parted rack → length rack.channels ≡ length parted.lists
as-many-lists parted rack planned =
    sym (length-map rack.channels vcid_of) ∙ (ap (length {A = ℕ}) (planned.ids ∙ sym planned.lists) ∙ length-map parted.lists (λ (l : WorkList). l.vcid))

-- a new plan, which has no job, fits new channels, which have no event
new-planned : (scid : ℕ) (list : List Settings) (found : Parted) → IsNewlyParted scid list found → IsPlanned found (new_rack scid list)
new-planned scid list found new =
    let vcids = new.0.vcids in
    record {
      spacecraft = sym new.0.spacecraft;
      ids = map-map vcid_of new_linked list ∙ sym vcids;
      lists = ap (map (λ (l : WorkList). l.vcid)) new.1 ∙ (map-map (λ (l : WorkList). l.vcid) empty_list list ∙ sym vcids);
      settings = map-map (λ (c : Linked). c.history.settings) new_linked list ∙ (map-id list ∙ sym new.0.settings);
      distinct = (new-ordered scid list found.station new.0).distinct;
      jobs = λ place l c at here.
          let list-is = unmapped empty_list list place l (ap (λ (ls : List WorkList). slice_get ls place) (sym new.1) ∙ at) in
          let channel-is = unmapped new_linked list place c here in
          let no-jobs : l.jobs ≡ [] = ap (λ (x : WorkList). x.jobs) (sym list-is.2) in
          let no-events : c.history.journal ≡ [] = ap (λ (x : Linked). x.history.journal) (sym channel-is.2) in
          subst (λ (x : List Job × List Event). AllHappen found.station.scid l.vcid c.history.settings x.0 [] x.1) (λ i. (sym no-jobs i, sym no-events i)) refl;
    }

-- if a job is added to a list, and the channel of this list is replaced by the channel after the job, the plan still
-- fits the channels
moved-planned : (found : Parted) (rack : Racked) (place : ℕ) (l : WorkList) (c new : Linked) (job : Job) → IsPlanned found rack
    → slice_get found.lists place ≡ Some l → slice_get rack.channels place ≡ Some c → new.history.settings ≡ c.history.settings
    → Happens found.station.scid l.vcid c.history.settings job.order c.history.journal new.history.journal
    → IsPlanned (record found { lists = slice_set found.lists place (with_job l job) }) (record rack { channels = slice_set rack.channels place new })
moved-planned found rack place l c new job planned at here same happens = record {
  spacecraft = planned.spacecraft;
  ids = same-set vcid_of rack.channels place c new here (ap (λ (s : Settings). s.vcid) same) ∙ planned.ids;
  lists = same-set (λ (x : WorkList). x.vcid) found.lists place l (with_job l job) at refl ∙ planned.lists;
  settings = same-set (λ (x : Linked). x.history.settings) rack.channels place c new here same ∙ planned.settings;
  distinct = planned.distinct;
  jobs = λ other x y there given. elim (eqb_tells other place) [
    | inl h ↦
        let list = set-at found.lists (slice_set found.lists place (with_job l job)) place other l (with_job l job) x refl at h.1 there in
        let channel = set-at rack.channels (slice_set rack.channels place new) place other c new y refl here h.1 given in
        let all = one-more-happens found.station.scid l.vcid c.history.settings l.jobs job [] c.history.journal new.history.journal (planned.jobs place l c at here) happens in
        let moved = subst (λ (s : Settings). AllHappen found.station.scid l.vcid s (l.jobs ++ job ∷ []) [] new.history.journal) (sym same) all in
        subst (λ (z : WorkList × Linked). AllHappen found.station.scid z.0.vcid z.1.history.settings z.0.jobs [] z.1.history.journal) (λ i. (list i, channel i)) moved
    | inr h ↦
        planned.jobs other x y
        (sym (set-elsewhere found.lists place other (with_job l job) h.1) ∙ there)
        (sym (set-elsewhere rack.channels place other new h.1) ∙ given)
  ];
}

-- the channel has an answer that `Answers` allows, and the job leads from the journal before this answer to the journal
-- after it
abbrev CanAnswer : (Linked → Answer → Linked → Type 0) → ℕ → Order → Linked → Type 0
CanAnswer Answers scid order c =
    (answer : Answer) × (new : Linked) × Answers c answer new × (new.history.settings ≡ c.history.settings)
    × Happens scid (vcid_of c) c.history.settings order c.history.journal new.history.journal

-- if the station has no channel with this id, none of the channels has it
no-channel : (parted : Parted) (rack : Racked) (vcid : ℕ) → IsPlanned parted rack → ¬ Contains parted.station.vcids vcid → ¬ HasChannel rack.channels vcid
no-channel parted rack vcid planned none there = none (subst (λ (l : List ℕ). Contains l vcid) planned.ids (any-contains vcid_of rack.channels vcid there))

no-list : (parted : Parted) (rack : Racked) (vcid : ℕ) → IsPlanned parted rack → ¬ HasWorkList parted.lists vcid → ¬ Contains parted.station.vcids vcid
no-list parted rack vcid planned none (k, lt, is) =
    none (any-mapped (λ (l : WorkList). l.vcid) parted.lists k vcid (ap (λ (l : List ℕ). slice_get l k) planned.lists ∙ (slice_get-get_or parted.station.vcids k vcid lt ∙ ap (λ (v : ℕ). Some v) is)))

given-planned : (vcid : ℕ) (job : Job) (Answers : Linked → Answer → Linked → Type 0) (found parted : Parted) (rack : Racked) → IsPlanned found rack → IsGiven vcid job found parted
    → ((c : Linked) → vcid_of c ≡ vcid → CanAnswer Answers found.station.scid job.order c)
    → (answer : Answer) × (new : Racked) × IsChannelAnswer vcid Answers rack answer new × IsPlanned parted new
given-planned vcid job Answers found parted rack planned (inl (place, l, (at, id), is)) can =
    let inside = slice_get_within found.lists place l at in
    let there = element rack.channels place (omega (arith, inside, as-many-lists found rack planned)) in
    let c = there.0 in
    let same : vcid_of c ≡ l.vcid = same-at vcid_of (λ (x : WorkList). x.vcid) rack.channels found.lists place c l (planned.ids ∙ sym planned.lists) there.1 at in
    let a = can c (same ∙ id) in
    let happens = subst (λ (v : ℕ). Happens found.station.scid v c.history.settings job.order c.history.journal a.1.history.journal) same a.4 in
    let new : Racked = record rack { channels = slice_set rack.channels place a.1 } in
    let moved = moved-planned found rack place l c a.1 job planned at there.1 a.3 happens in
    (a.0, new, inl (place, c, a.1, (there.1, same ∙ id), a.2, refl), subst (λ (p : Parted). IsPlanned p new) (sym is) moved)
given-planned vcid job Answers found parted rack planned (inr (none, is)) can = (
  answers.Refused UnknownChannel,
  rack,
  inr ((no-channel found rack vcid planned (no-list found rack vcid planned none), refl), refl),
  subst (λ (p : Parted). IsPlanned p rack) (sym is) planned,
)

-- ---- the answer of each operation

release-can : (scid : ℕ) (c : Linked) → CanAnswer IsReleaseAnswered scid orders.Release c
release-can scid c = elim (nil-or-not (buffered_fields c.history.settings c.history.journal)) [
  | inl none ↦ (answers.Refused Empty, c, inr (none, refl, refl), refl, inr (none, refl))
  | inr some ↦ (answers.Release (vcid_of c) (release_reply c.history.settings c.history.journal), later events.Release c, inl (some, refl, refl), refl, inl (some, refl))
]

take-can : (scid apid : ℕ) (c : Linked) → CanAnswer (IsTakeAnswered apid) scid (orders.Take apid) c
take-can scid apid c = elim (waits-or-not (waiting_packets c.history.settings c.history.journal apid)) [
  | inl some ↦ (answers.Take (vcid_of c) apid some.0, later (events.Take apid) c, inl (some.0, some.1, refl, refl), refl, inl ((some.0, some.1), refl))
  | inr none ↦ elim none [
    | inl absent ↦ (answers.Refused NoQueue, c, inr (inl (absent, refl), refl), refl, inr (inl absent, refl))
    | inr empty ↦ (answers.Refused Empty, c, inr (inr (empty, refl), refl), refl, inr (inr empty, refl))
  ]
]

unit-can : (scid map_id : ℕ) (c : Linked) → CanAnswer (IsUnitAnswered map_id) scid (orders.TakeUnit map_id) c
unit-can scid map_id c = elim (waits-or-not (waiting_units c.history.settings c.history.journal map_id)) [
  | inl some ↦ (answers.Unit (vcid_of c) map_id some.0, later (events.TakeUnit map_id) c, inl (some.0, some.1, refl, refl), refl, inl ((some.0, some.1), refl))
  | inr none ↦ elim none [
    | inl absent ↦ (answers.Refused NoMap, c, inr (inl (absent, refl), refl), refl, inr (inl absent, refl))
    | inr empty ↦ (answers.Refused Empty, c, inr (inr (empty, refl), refl), refl, inr (inr empty, refl))
  ]
]

-- these channels give an answer that `Answers` allows, and afterwards they fit `parted`, the plan after the operation's
-- job was appended
abbrev IsAnsweredSo : (Racked → Answer → Racked → Type 0) → Parted → Racked → Type 0
IsAnsweredSo Answers parted rack = (answer : Answer) × (new : Racked) × Answers rack answer new × IsPlanned parted new

located-for : (found : Parted) (rack : Racked) (octets : List ℕ) (fault : LocateFault) → IsPlanned found rack → at_station.IsLocateFault found.station octets fault → IsRackLocateFault rack octets fault
located-for found rack octets (faults.Frame f) planned why = why
located-for found rack octets faults.OtherSpacecraft planned (frame, begins, apart) = (frame, begins, λ same. apart (same ∙ planned.spacecraft))
located-for found rack octets faults.UnknownChannel planned (frame, ours, none) =
    (frame, ours.0, ours.1 ∙ sym planned.spacecraft, no-channel found rack (header_of frame).vcid planned none)

-- a frame is answered by the channel that its header names
brought : (octets frame : List ℕ) (vcid : ℕ) (found parted : Parted) (rack new : Racked) (answer : Answer) → IsPlanned found rack → at_station.IsLocated found.station octets vcid frame
    → IsChannelAnswer vcid (IsFrameAnswered frame) rack answer new → IsPlanned parted new → IsAnsweredSo (IsFrameAnswer octets) parted rack
brought octets frame vcid found parted rack new answer planned located (inl changes) moved =
    let named : IsChannelAnswer (header_of frame).vcid (IsFrameAnswered frame) rack answer new =
    subst (λ (v : ℕ). IsChannelAnswer v (IsFrameAnswered frame) rack answer new) (sym located.1) (inl changes) in
    elim named [
      | inl there ↦ (answer, new, inl (frame, located.0.0, located.0.1 ∙ sym planned.spacecraft, there), moved)
      | inr none ↦
          let fault : IsRackLocateFault rack octets faults.UnknownChannel = (frame, located.0.0, located.0.1 ∙ sym planned.spacecraft, none.0.0) in
          (answers.Refused (Unlocated faults.UnknownChannel), new, inr (faults.UnknownChannel, fault, refl, none.1), moved)
    ]
brought octets frame vcid found parted rack new answer planned located (inr ((none, is), same)) moved =
    let fault : IsRackLocateFault rack octets faults.UnknownChannel =
    (frame, located.0.0, located.0.1 ∙ sym planned.spacecraft, subst (λ (v : ℕ). ¬ HasChannel rack.channels v) (sym located.1) none) in
    (answers.Refused (Unlocated faults.UnknownChannel), new, inr (faults.UnknownChannel, fault, refl, same), moved)

frame-planned : (line : ℕ) (octets : List ℕ) (found parted : Parted) (rack : Racked) → IsPlanned found rack → IsFrameGiven line octets found parted
    → IsAnsweredSo (IsFrameAnswer octets) parted rack
frame-planned line octets found parted rack planned (inl (vcid, frame, located, given)) =
    let job : Job = record { line = line; order = orders.Bring octets } in
    let can : (c : Linked) → vcid_of c ≡ vcid → CanAnswer (IsFrameAnswered frame) found.station.scid job.order c =
    λ c id. (
      answers.Frame (vcid_of c) (frame_reply c.history.settings c.history.journal frame),
      later (events.Frame frame) c,
      (refl, refl),
      refl,
      (frame, located.0.0, located.0.1, located.1 ∙ sym id, inl (tt, refl)),
    ) in
    let one = given-planned vcid job (IsFrameAnswered frame) found parted rack planned given can in
    brought octets frame vcid found parted rack one.1 one.0 planned located one.2 one.3
frame-planned line octets found parted rack planned (inr (fault, why, is)) = (
  answers.Refused (Unlocated fault),
  rack,
  inr (fault, located-for found rack octets fault planned why, refl, refl),
  subst (λ (p : Parted). IsPlanned p rack) (sym is) planned,
)

not-first : (c : Linked) (xs : List Linked) (vcid : ℕ) → vcid_of c ≢ vcid → ¬ HasChannel xs vcid → HasChannel (c ∷ xs) vcid → ⊥
not-first c xs vcid apart none (zero, x, lt, is, id) = apart (ap vcid_of is ∙ id)
not-first c xs vcid apart none (suc k, x, lt, is, id) = none (k, x, omega (arith, lt), is, id)

-- either a channel has this id, or no channel has it
there-or-not : (channels : List Linked) (vcid : ℕ) → ((place : ℕ) × (c : Linked) × IsChannelAt channels vcid place c) ⊎ ¬ HasChannel channels vcid
there-or-not [] vcid = inr (λ there. absurd (omega (arith, there.2)))
there-or-not (c ∷ xs) vcid = elim (eqb_tells (vcid_of c) vcid) [
  | inl h ↦ inl (0, c, (refl, h.1))
  | inr h ↦ elim (there-or-not xs vcid) [
    | inl found ↦ inl (suc found.0, found.1, found.2)
    | inr none ↦ inr (not-first c xs vcid h.1 none)
  ]
]

word-planned : (vcid : ℕ) (found parted : Parted) (rack : Racked) → IsPlanned found rack → parted ≡ found
    → IsAnsweredSo (λ old answer new. IsClcwAnswer vcid old answer × (new ≡ old)) parted rack
word-planned vcid found parted rack planned is =
    let still = subst (λ (p : Parted). IsPlanned p rack) (sym is) planned in
    elim (there-or-not rack.channels vcid) [
      | inl there ↦
          let c = there.1 in (
            reported_word c,
            rack,
            (inl (there.0, c, there.2, refl), refl),
            still,
          )
      | inr none ↦ (answers.Refused UnknownChannel, rack, (inr (none, refl), refl), still)
    ]

-- ---- the lines of a script

abbrev pub AreMatched : Plan → Progress → Type 0
AreMatched (SettingUp list) progress = progress ≡ SettingUp list
AreMatched (Operating parted) progress = (rack : Racked) × (progress ≡ Operating rack) × IsPlanned parted rack

pub matched-phase : (plan : Plan) (progress : Progress) → AreMatched plan progress → phase_of plan ≡ phase_of progress
matched-phase (SettingUp list) progress is = ap phase_of (sym is)
matched-phase (Operating parted) progress (rack, is, planned) = ap phase_of (sym is)

pub found-planned : (scid : ℕ) (plan : Plan) (progress : Progress) (found : Parted) → AreMatched plan progress → ArePartedFor scid plan found → IsPlanned found (rack_for scid progress)
found-planned scid (SettingUp list) progress found is new = subst (λ (p : Progress). IsPlanned found (rack_for scid p)) (sym is) (new-planned scid list found new)
found-planned scid (Operating parted) progress found (rack, is, planned) same =
    subst (λ (x : Parted × Progress). IsPlanned x.0 (rack_for scid x.1)) (λ i. (sym same i, sym is i)) planned

abbrev IsLineMatched : ℕ → Progress → Instruction → Plan → Type 0
IsLineMatched scid progress instruction new =
    (answer : Option Answer) × (next : Progress) × IsInstructionAnswered (IsPerformed scid) progress instruction next answer × AreMatched new next

parts-planned : (scid : ℕ) (operation : Operation) (Gives : Parted → Parted → Type 0) (plan new : Plan) (progress : Progress) → AreMatched plan progress → GivesToFound scid Gives plan new
    → ((found parted : Parted) (rack : Racked) → IsPlanned found rack → Gives found parted → IsAnsweredSo (IsAnswerOf operation) parted rack)
    → (answer : Option Answer) × (next : Progress) × IsDoneSo (IsPerformed scid) operation progress answer next × AreMatched new next
parts-planned scid operation Gives plan new progress matched (found, parted, for, gives, is) can =
    let one = can found parted (rack_for scid progress) (found-planned scid plan progress found matched for) gives in (
      Some one.0,
      Operating one.1,
      (one.0, (rack_for scid progress, one.1, rack-found scid progress, one.2, refl), refl),
      subst (λ (p : Plan). AreMatched p (Operating one.1)) (sym is) (one.1, refl, one.3),
    )

line-planned : (scid number : ℕ) (instruction : Instruction) (plan new : Plan) (progress : Progress) → AreMatched plan progress → Does (phase_of plan) instruction (phase_of new)
    → IsParted scid number plan instruction new → IsLineMatched scid progress instruction new
line-planned scid number Nothing plan new progress matched does same = (None, progress, (refl, refl), subst (λ (p : Plan). AreMatched p progress) (sym same) matched)
line-planned scid number (Channel settings) plan new progress matched (old, list, was, adds, is) parted = (None, SettingUp list, refl, subst (λ (p : Plan). AreMatched p (SettingUp list)) (sym (set-up new list is)) refl)
line-planned scid number (Add vcid addition) plan new progress matched (old, list, was, adds, is) parted = (None, SettingUp list, refl, subst (λ (p : Plan). AreMatched p (SettingUp list)) (sym (set-up new list is)) refl)
line-planned scid number (Frame octets) plan new progress matched does parts =
    parts-planned scid (operations.Frame octets) (IsFrameGiven number octets) plan new progress matched parts (frame-planned number octets)
line-planned scid number (Release vcid) plan new progress matched does parts =
    let job : Job = record { line = number; order = orders.Release } in
    parts-planned scid (operations.Release vcid) (IsGiven vcid job) plan new progress matched parts
    (λ found parted rack planned given. given-planned vcid job IsReleaseAnswered found parted rack planned given (λ c id. release-can found.station.scid c))
line-planned scid number (Take vcid apid) plan new progress matched does parts =
    let job : Job = record { line = number; order = orders.Take apid } in
    parts-planned scid (operations.Take vcid apid) (IsGiven vcid job) plan new progress matched parts
    (λ found parted rack planned given. given-planned vcid job (IsTakeAnswered apid) found parted rack planned given (λ c id. take-can found.station.scid apid c))
line-planned scid number (TakeUnit vcid map_id) plan new progress matched does parts =
    let job : Job = record { line = number; order = orders.TakeUnit map_id } in
    parts-planned scid (operations.Unit vcid map_id) (IsGiven vcid job) plan new progress matched parts
    (λ found parted rack planned given. given-planned vcid job (IsUnitAnswered map_id) found parted rack planned given (λ c id. unit-can found.station.scid map_id c))
line-planned scid number (Clcw vcid) plan new progress matched does parts =
    parts-planned scid (operations.Clcw vcid) (λ before after. after ≡ before) plan new progress matched parts (word-planned vcid)

-- If the jobs of the first `count` lines were appended to the lists of their channels, these lines also have answers
-- when they are carried out in order. The progress that they lead to matches the plan.
pub all-planned : (scid : ℕ) (script : List ℕ) (count : ℕ) (plan : Plan) (rest : List ℕ) → AreParted scid script count plan rest
    → (answers : List (Option Answer)) × (progress : Progress) × AreAnswers (IsPerformed scid) script answers progress rest × AreMatched plan progress
all-planned scid script count plan rest none_parted = ([], SettingUp [], at_first, refl)
all-planned scid script count plan rest (one_parted {count = before} {plan = old} leads next parted) =
    let so_far = all-planned scid script before old _ leads in
    let line = line-planned scid (before + 1) (instruction_of parted.0) old plan so_far.1 so_far.3 parted.2 parted.3 in
    let does = subst (λ (x : Phase × Phase). Does x.0 (instruction_of parted.0) x.1) (λ i. (matched-phase old so_far.1 so_far.3 i, matched-phase plan line.1 line.3 i)) parted.2 in
    (so_far.0 ++ line.0 ∷ [], line.1, one_more so_far.2 next (parted.0, parted.1, does, line.2), line.3)
