-- If the operator of a station has made all events of its desks, each of its answers follows from the lines before it.
-- So does each CLCW that its watchers read, if in the end each watcher has seen exactly the events that the operator has
-- seen.
use Rattle.std.proofs.Common.{◌≡◌, ◌<◌, ℕ, zero, suc, List, [], ◌∷◌, ◌++◌, Some, Err, All, map, length, get_or, set, slice_get, inl, inr, refl, sym, ap, ◌∙◌, subst, arith, ◌==◌, Contains, slice_index}
use Rattle.tc_cli.proofs.Names.{All-head, All-tail, AllHaveMet, Answer, AreClosedTogether, AtLock, AtStation, Changes, Event, HasChannel, HasMadeAll, HasMetAt, HasSeenItsOwn, HasSeenNoMore, HaveMet, History, Identity, IsAnswerOf, IsAnsweredAt, IsBeginning, IsBringAnswer, IsChannelAnswer, IsClcwAnswer, IsClosed, IsDeskAnswer, IsFrameAnswer, IsFrameAnswered, IsMergeOf, IsPlace, IsRackLocateFault, IsReleaseAnswered, IsTakeAnswered, IsUnitAnswered, IsWordAnswer, KnowsDesks, Linked, LocateFault, Staffed, Moment, Operation, Own, Racked, Roster, Settings, Watching, clcw, eqb-true, eqb_tells, get_or_from_slice_get, header_of, heads_of, histories, history_of, length-map, length-set, linked, looked, made, map-map, new_linked, new_rack, no_flag, nobody, position-Some, same_Some, settings_in, slice_get-get_or, slice_get_within, reported_word, vcid_of}
use Rattle.std.proofs.lemmas.List.{map-set}
use Rattle.std.proofs.lemmas.List.Elements.{All-set}
use Rattle.tc_channel.specs.declared.event.Event.TheVariants.{Release}
use Rattle.tc_desk.specs.{TableId}
use Rattle.tc_desk.specs.Together.{locks_of}
use Rattle.tc_status.specs.Board as board
use Rattle.tc_station.specs.Location as at_station
use Rattle.tc_station.specs.StationSettings.{vcids_of}
use Rattle.tc_link.specs.declared.location.LocateFault.TheVariants.{Frame, OtherSpacecraft, UnknownChannel}
use Rattle.tc_cli.specs.Staffed.{IsStaffedAnswer, IsNewlyStaffed, IsReadAt}
use Rattle.tc_cli.proofs.Answered.{answered-at}
use Rattle.tc_station.specs.Call.{IsCallAt}
use Rattle.tc_cli.proofs.Beginnings.{AreEach, IsLevel, beginning-same, each-back, each-set, each-there, no-event}
use Rattle.tc_cli.proofs.Lists.{all-back, any-contains, mapped-at, same-mapped, same-set, set-at, set-else, set-same, set-there, unmapped, was-there}
use Rattle.tc_status.proofs.Beginnings.{beginning-self, beginning-trans}
use Rattle.tc_rack.specs.declared.answer.Answer.TheVariants.{Clcw, Refused}
use Rattle.tc_rack.specs.declared.answer.Refusal.TheVariants.{UnknownChannel}
use Rattle.tc_rack.specs.declared.operation.Operation.TheVariants as operations

-- the laws about desks that these proofs rest on
pub record AloneLaws : Type 0 where
  pub event : (before : Own) (now : Moment) (e : Event) → HasSeenItsOwn before → IsBeginning before.seen now → HasMadeAll (made e now before) → HasMadeAll before × (now ≡ before.seen)
  pub look : (before : Own) (now : Moment) → HasSeenItsOwn before → IsBeginning before.seen now → HasMadeAll (looked now before) → HasMadeAll before × (now ≡ before.seen)
  pub seen : (before : Own) (now : Moment) (e : Event) → HasSeenItsOwn before → IsBeginning before.seen now → HasSeenItsOwn (made e now before) × HasSeenItsOwn (looked now before)
  pub whole : (own : Own) (journal : List Event) → HasSeenItsOwn own → IsBeginning own.seen (record { head = own.seen.head; entries = journal }) → IsMergeOf journal (own ∷ [])
      → HasMadeAll own × (own.seen.entries ≡ journal)

-- the channel of a desk as its operator has seen it
abbrev pub channel_at : AtLock → Linked
channel_at d = linked d.own.seen

abbrev pub rack_of : Staffed → Racked
rack_of m = record { scid = m.station.scid; channels = map channel_at m.operator.desks }

-- at each desk, the operator has seen at least the events that it has made
abbrev pub AreSeen : List AtLock → Type 0
AreSeen desks = All (λ (d : AtLock). HasSeenItsOwn d.own) desks

-- the operator has made all events that it has seen
abbrev pub AreAlone : List AtLock → Type 0
AreAlone desks = All (λ (d : AtLock). HasMadeAll d.own) desks

-- if the operator has made all events that it has seen, the watcher has seen them, too
abbrev pub IsAhead : AtLock → History → Type 0
IsAhead d seen = HasMadeAll d.own → board.IsEarlier (history_of d.own.seen) seen

pub record IsSound (m : Staffed) : Type 0 where
  pub knows : KnowsDesks m.station m.operator
  pub named : vcids_of (settings_in m.station) ≡ m.station.vcids
  pub seen : AreSeen m.operator.desks
  pub ahead : AreEach IsAhead m.operator.desks m.watchers

-- the operator has made all events that it has seen, and each watcher has seen exactly the events that the operator has
-- seen
abbrev pub IsAlone : Staffed → Type 0
IsAlone m = AreAlone m.operator.desks × AreEach IsLevel m.operator.desks m.watchers

-- A step leads from the first station to the second, which is sound. If the operator is alone after the step, it was
-- alone before the step, and `Holds` holds.
abbrev pub Follows : Staffed → Staffed → Type 0 → Type 0
Follows m new Holds = IsSound new × (IsAlone new → IsAlone m × Holds)

unchanged : (m new : Staffed) (Holds : Type 0) → new ≡ m → IsSound m → Holds → Follows m new Holds
unchanged m new Holds same sound holds = (subst IsSound (sym same) sound, λ alone. (subst IsAlone same alone, holds))

-- ---- at one desk

module _ (laws : AloneLaws) (Answers : Linked → Answer → Linked → Type 0) (place vcid : ℕ) (m new : Staffed) (answer : Answer) (a : IsAnsweredAt place vcid Answers m answer new) (sound : IsSound m) where
  owned : HasSeenItsOwn a.there.own
  owned = was-there (λ (d : AtLock). HasSeenItsOwn d.own) m.operator.desks place a.there a.was sound.seen

  -- a sound station stays sound
  still-sound : IsSound new
  still-sound =
      let desks = m.operator.desks in
      let head : a.next.own.seen.head ≡ a.there.own.seen.head = elim a.answered [
        | inl h ↦ ap (λ (o : Own). o.seen.head) h.2 ∙ a.later.0
        | inr h ↦ ap (λ (o : Own). o.seen.head) h.1 ∙ a.later.0
      ] in
      let next : HasSeenItsOwn a.next.own = elim a.answered [
        | inl h ↦ subst HasSeenItsOwn (sym h.2) (laws.seen a.there.own a.now h.0 owned a.later).0
        | inr h ↦ subst HasSeenItsOwn (sym h.1) (laws.seen a.there.own a.now Release owned a.later).1
      ] in
      record {
        knows = ap heads_of a.others ∙ (same-set (λ (d : AtLock). d.own.seen.head) desks place a.there a.next a.was head ∙ (sound.knows ∙ ap (λ (r : Roster). r.heads) (sym a.station)));
        named = subst (λ (r : Roster). vcids_of (settings_in r) ≡ r.vcids) (sym a.station) sound.named;
        seen = subst AreSeen (sym a.others) (All-set (λ (d : AtLock). HasSeenItsOwn d.own) desks place a.next next sound.seen);
        ahead = each-set IsAhead desks new.operator.desks m.watchers new.watchers place a.there a.next a.early a.late a.others a.watchers a.was a.watched sound.ahead
            (λ made. subst (board.IsEarlier (history_of a.next.own.seen)) (sym a.met.1) (beginning-self (history_of a.next.own.seen)));
      }

  -- If the operator is alone after this answer, it was alone before. The channel then gives this answer in the state
  -- that the operator had seen.
  changed : IsAlone new → IsAlone m × Changes (rack_of m) vcid (λ before after. Answers before answer after) (rack_of new)
  changed alone =
      let desks = m.operator.desks in
      let all : AreAlone (set desks place a.next) = subst AreAlone a.others alone.0 in
      let last : HasMadeAll a.next.own = was-there (λ (d : AtLock). HasMadeAll d.own) (set desks place a.next) place a.next (set-there desks place a.there a.next a.was) all in
      let step : HasMadeAll a.there.own × (a.now ≡ a.there.own.seen) = elim a.answered [
        | inl h ↦ laws.event a.there.own a.now h.0 owned a.later (subst HasMadeAll h.2 last)
        | inr h ↦ laws.look a.there.own a.now owned a.later (subst HasMadeAll h.1 last)
      ] in
      let reported : Answers (linked a.now) answer (channel_at a.next) = elim a.answered [
        | inl h ↦ subst (λ (o : Own). Answers (linked a.now) answer (linked o.seen)) (sym h.2) h.1
        | inr h ↦ subst (λ (o : Own). Answers (linked a.now) answer (linked o.seen)) (sym h.1) h.0
      ] in
      let before : AreAlone desks = all-back (λ (d : AtLock). HasMadeAll d.own) desks place a.there a.next a.was step.0 all in
      let least = sound.ahead place a.there a.early a.was a.watched step.0 in
      let most : board.IsEarlier a.early.seen (history_of a.there.own.seen) = subst (HasSeenNoMore a.early) step.1 a.no_more in
      let level =
      each-back IsLevel desks new.operator.desks m.watchers new.watchers place a.there a.next a.early a.late a.others a.watchers a.was a.watched alone.1
      (beginning-same a.early.seen (history_of a.there.own.seen) most least) in
      let id : vcid_of (channel_at a.there) ≡ vcid = ap (λ (n : Moment). n.head.settings.vcid) (sym step.1) ∙ a.named in
      let answered = subst (λ (n : Moment). Answers (linked n) answer (channel_at a.next)) step.1 reported in
      let channels : map channel_at new.operator.desks ≡ set (map channel_at desks) place (channel_at a.next) = ap (map channel_at) a.others ∙ map-set channel_at desks place a.next in (
        (before, level),
        (place, channel_at a.there, channel_at a.next, (mapped-at channel_at desks place a.there a.was, id), answered, λ i. record { scid = (a.station i).scid; channels = channels i }),
      )

-- ---- the answer of each operation

-- the channels that the operator has seen have the ids of the station's channels, in the same order
ids : (m : Staffed) → IsSound m → map vcid_of (map channel_at m.operator.desks) ≡ m.station.vcids
ids m sound =
    map-map vcid_of channel_at m.operator.desks
    ∙ (sym (map-map (λ (h : Identity). h.settings.vcid) (λ (d : AtLock). d.own.seen.head) m.operator.desks)
    ∙ (ap (map (λ (h : Identity). h.settings.vcid)) sound.knows
    ∙ (sym (map-map (λ (s : Settings). s.vcid) (λ (h : Identity). h.settings) m.station.heads) ∙ sound.named)))

unknown : (m : Staffed) (vcid : ℕ) → IsSound m → ¬ Contains m.station.vcids vcid → ¬ HasChannel (map channel_at m.operator.desks) vcid
unknown m vcid sound none there = none (subst (λ (l : List ℕ). Contains l vcid) (ids m sound) (any-contains vcid_of (map channel_at m.operator.desks) vcid there))

located : (m : Staffed) (octets : List ℕ) (fault : LocateFault) → IsSound m → at_station.IsLocateFault m.station octets fault → IsRackLocateFault (rack_of m) octets fault
located m octets UnknownChannel sound (frame, ours, none) = (frame, ours.0, ours.1, unknown m (header_of frame).vcid sound none)
located m octets (Frame f) sound why = why
located m octets OtherSpacecraft sound why = why

-- if the watcher of a channel read a CLCW, the operator has a desk at the channel's place, and the desk's channel has
-- this id
read-desk : (place vcid : ℕ) (m new : Staffed) (answer : Answer) → IsSound m → IsPlace m.station vcid place → IsReadAt place vcid m answer new
    → (d : AtLock) × (slice_get m.operator.desks place ≡ Some d) × (d.own.seen.head.settings.vcid ≡ vcid)
read-desk place vcid m new answer sound here a =
    let heads = m.station.heads in
    let same : a.desk.0 ≡ place = same_Some a.desk.0 place (sym a.desk.1 ∙ here) in
    let known : slice_get heads place ≡ Some a.head = ap (λ (k : ℕ). slice_get heads k) (sym same) ∙ a.desk.2 in
    let desk = unmapped (λ (d : AtLock). d.own.seen.head) m.operator.desks place a.head (ap (λ (l : List Identity). slice_get l place) sound.knows ∙ known) in
    let named = mapped-at (λ (s : Settings). s.vcid) (settings_in m.station) place a.head.settings (mapped-at (λ (h : Identity). h.settings) heads place a.head known) in
    let passes = (position-Some (λ v. v == vcid) m.station.vcids place 0 here).1 in
    let id : a.head.settings.vcid ≡ vcid =
    sym (get_or_from_slice_get (vcids_of (settings_in m.station)) place a.head.settings.vcid 0 named)
    ∙ (ap (λ (l : List ℕ). slice_index l place) sound.named ∙ eqb-true (slice_index m.station.vcids place) vcid passes) in
    (desk.0, desk.1, ap (λ (h : Identity). h.settings.vcid) desk.2 ∙ id)

word-answer : (vcid : ℕ) (m new : Staffed) (answer : Answer) → IsSound m → IsWordAnswer vcid m answer new → Follows m new (IsClcwAnswer vcid (rack_of m) answer × (rack_of new ≡ rack_of m))
word-answer vcid m new answer sound (inr (none, is, same)) = unchanged m new _ same sound (inr (unknown m vcid sound none, is), ap rack_of same)
word-answer vcid m new answer sound (inl (place, here, a)) =
    let found = read-desk place vcid m new answer sound here a in
    let d = found.0 in
    let desks = m.operator.desks in
    let ahead =
    each-set IsAhead desks desks m.watchers (set m.watchers place a.late) place d d a.early a.late (sym (set-same desks place d found.1)) refl found.1 a.watched sound.ahead
    (λ made. beginning-trans (history_of d.own.seen) a.early.seen a.late.seen (sound.ahead place d a.early found.1 a.watched made) a.later) in (
      subst IsSound (sym a.change) (record { knows = sound.knows; named = sound.named; seen = sound.seen; ahead = ahead }),
      λ alone.
          let still : new.operator ≡ m.operator = ap (λ (x : Staffed). x.operator) a.change in
          let all : AreAlone desks = subst (λ (o : AtStation). AreAlone o.desks) still alone.0 in
          let same : new.operator.desks ≡ set desks place d = ap (λ (o : AtStation). o.desks) still ∙ sym (set-same desks place d found.1) in
          let watchers = ap (λ (x : Staffed). x.watchers) a.change in
          let level : a.late.seen ≡ history_of d.own.seen = each-there IsLevel desks new.operator.desks m.watchers new.watchers place d d a.early a.late same watchers found.1 a.watched alone.1 in
          let least = sound.ahead place d a.early found.1 a.watched (was-there (λ (x : AtLock). HasMadeAll x.own) desks place d found.1 all) in
          let most : board.IsEarlier a.early.seen (history_of d.own.seen) = subst (board.IsEarlier a.early.seen) level a.later in
          let before =
          each-back IsLevel desks new.operator.desks m.watchers new.watchers place d d a.early a.late same watchers found.1 a.watched alone.1
          (beginning-same a.early.seen (history_of d.own.seen) most least) in
          let word : answer ≡ reported_word (channel_at d) = a.word ∙ (λ i. Clcw (sym found.2 i) (clcw (level i).settings (level i).journal no_flag)) in (
            (all, before),
            (inl (place, channel_at d, (mapped-at channel_at desks place d found.1, found.2), word), λ i. record { scid = (a.change i).station.scid; channels = map channel_at (still i).desks }),
          ),
    )

module _ (laws : AloneLaws) where
  desk-answer : (Answers : Linked → Answer → Linked → Type 0) (vcid : ℕ) (m new : Staffed) (answer : Answer) → IsSound m → IsDeskAnswer vcid Answers m answer new
      → Follows m new (IsChannelAnswer vcid Answers (rack_of m) answer (rack_of new))
  desk-answer Answers vcid m new answer sound (inl (place, at, a)) =
      (still-sound laws Answers place vcid m new answer a sound, λ alone. let c = changed laws Answers place vcid m new answer a sound alone in (c.0, inl c.1))
  desk-answer Answers vcid m new answer sound (inr (none, is, same)) = unchanged m new _ same sound (inr ((unknown m vcid sound none, is), ap rack_of same))

  bring-answer : (octets : List ℕ) (m new : Staffed) (answer : Answer) → IsSound m → IsBringAnswer octets m answer new → Follows m new (IsFrameAnswer octets (rack_of m) answer (rack_of new))
  bring-answer octets m new answer sound (inl (place, vcid, frame, placed, a)) = (
    still-sound laws (IsFrameAnswered frame) place vcid m new answer a sound,
    λ alone.
        let c = changed laws (IsFrameAnswered frame) place vcid m new answer a sound alone in
        let named : (header_of frame).vcid ≡ vcid = placed.0.1 in
        (c.0, inl (frame, placed.0.0.0, placed.0.0.1, subst (λ (v : ℕ). Changes (rack_of m) v (λ before after. IsFrameAnswered frame before answer after) (rack_of new)) (sym named) c.1)),
  )
  bring-answer octets m new answer sound (inr (fault, why, is, same)) = unchanged m new _ same sound (inr (fault, located m octets fault sound why, is, ap rack_of same))

  pub answered-alone : (operation : Operation) (m new : Staffed) (answer : Answer) → IsSound m → IsStaffedAnswer operation m answer new → Follows m new (IsAnswerOf operation (rack_of m) answer (rack_of new))
  answered-alone (operations.Frame octets) m new answer sound a = bring-answer octets m new answer sound a
  answered-alone (operations.Release vcid) m new answer sound a = desk-answer IsReleaseAnswered vcid m new answer sound a
  answered-alone (operations.Take vcid apid) m new answer sound a = desk-answer (IsTakeAnswered apid) vcid m new answer sound a
  answered-alone (operations.Unit vcid map_id) m new answer sound a = desk-answer (IsUnitAnswered map_id) vcid m new answer sound a
  answered-alone (operations.Clcw vcid) m new answer sound a = word-answer vcid m new answer sound a

  -- ---- the watchers meet their desks

  -- a meeting at a desk satisfies `IsAnsweredAt` with an answer that leaves the channel unchanged
  as-answer : (place : ℕ) (m new : Staffed) → (a : HasMetAt place m new) → IsAnsweredAt place a.vcid (λ old answer after. after ≡ old) m (Refused UnknownChannel) new
  as-answer place m new a =
      let met = a.meeting in
      let look = met.meeting.look in
      let call : IsCallAt place a.vcid Release (λ (now : Moment) (u : Unit {0}). ⊥ × HasSeenNoMore a.early now) (λ (now : Moment) (u : Unit {0}). Unit {0} × HasSeenNoMore a.early now) m.operator (Err tt) new.operator = record {
        there = met.there;
        next = met.next;
        was = met.was;
        named = met.named;
        call = record { now = look.now; later = look.later; moment = look.moment; lock = look.lock; answer = ((tt, look.answer), look.looked) };
        others = met.others;
        vcids = met.vcids;
      } in
      answered-at place a.vcid Release (λ (now : Moment) (u : Unit {0}). ⊥) (λ (now : Moment) (u : Unit {0}). Unit {0}) (λ old answer after. after ≡ old) m new (Err tt) (Refused UnknownChannel)
      (record { early = a.early; late = a.late; watched = a.watched; call = record { at = call; met = met.meeting.met }; watchers = a.watchers; station = a.station }) (λ now named none. refl)

  met-alone : (place : ℕ) (m new : Staffed) → HasMetAt place m new → IsSound m → Follows m new (rack_of new ≡ rack_of m)
  met-alone place m new a sound = (
    still-sound laws (λ old answer after. after ≡ old) place a.vcid m new (Refused UnknownChannel) (as-answer place m new a) sound,
    λ alone.
        let c = changed laws (λ old answer after. after ≡ old) place a.vcid m new (Refused UnknownChannel) (as-answer place m new a) sound alone in
        let (k, old, after, at, same, is) = c.1 in
        let rack = rack_of m in (
          c.0,
          is ∙ (ap (λ (x : Linked). record rack { channels = set rack.channels k x }) same ∙ ap (λ (l : List Linked). record rack { channels = l }) (set-same rack.channels k old at.0)),
        ),
  )

  pub all-met-alone : (n : ℕ) (m met : Staffed) → HaveMet n m met → IsSound m → Follows m met (rack_of met ≡ rack_of m)
  all-met-alone zero m met same sound = unchanged m met _ same sound (ap rack_of same)
  all-met-alone (suc n) m met (mid, first, last) sound =
      let early = all-met-alone n m mid first sound in
      let late = met-alone n mid met last early.0 in
      (late.0, λ alone. let one = late.1 alone in let two = early.1 one.0 in (two.0, one.1 ∙ two.1))

  -- a watcher that has met its desk has seen exactly the events that the operator has seen
  level-so-far : (n : ℕ) (m met : Staffed) → HaveMet n m met → (k : ℕ) (d : AtLock) (w : Watching) → k < n → slice_get met.operator.desks k ≡ Some d → slice_get met.watchers k ≡ Some w → IsLevel d w.seen
  level-so-far zero m met same k d w lt at here = absurd (omega (arith, lt))
  level-so-far (suc n) m met (mid, first, last) k d w lt at here =
      let a = as-answer n mid met last in
      elim (eqb_tells k n) [
        | inl same ↦
            let d-is = set-at mid.operator.desks met.operator.desks n k a.there a.next d a.others a.was same.1 at in
            let w-is = set-at mid.watchers met.watchers n k a.early a.late w a.watchers a.watched same.1 here in
            subst (λ (x : AtLock × Watching). IsLevel x.0 x.1.seen) (λ i. (d-is i, w-is i)) a.met.1
        | inr apart ↦
            level-so-far n m mid first k d w (omega (arith, lt, apart.1))
            (set-else mid.operator.desks met.operator.desks n k a.next d a.others apart.1 at) (set-else mid.watchers met.watchers n k a.late w a.watchers apart.1 here)
      ]

  watchers-kept : (n : ℕ) (m met : Staffed) → HaveMet n m met → length met.watchers ≡ length m.watchers
  watchers-kept zero m met same = ap (λ (x : Staffed). length x.watchers) same
  watchers-kept (suc n) m met (mid, first, last) = ap (length {A = Watching}) last.watchers ∙ (length-set mid.watchers n last.late ∙ watchers-kept n m mid first)

  pub all-level : (m met : Staffed) → AllHaveMet m met → AreEach IsLevel met.operator.desks met.watchers
  all-level m met have = λ k d w at here.
      let inside = slice_get_within met.watchers k w here in
      level-so-far (length m.watchers) m met have k d w (omega (arith, inside, watchers-kept (length m.watchers) m met have)) at here

-- ---- a new station

-- the channels of a new station have no event
new-channels : (desks : List AtLock) → AreAlone desks → All (λ (d : AtLock). d.own.made ≡ []) desks → map channel_at desks ≡ map new_linked (map (λ (h : Identity). h.settings) (heads_of desks))
new-channels [] alone nothing = refl
new-channels (d ∷ ds) alone nothing =
    let none = no-event d.own (All-head (λ (x : AtLock). HasMadeAll x.own) d ds alone) (All-head (λ (x : AtLock). x.own.made ≡ []) d ds nothing) in
    let rest = new-channels ds (All-tail (λ (x : AtLock). HasMadeAll x.own) d ds alone) (All-tail (λ (x : AtLock). x.own.made ≡ []) d ds nothing) in
    λ i. linked (record { head = d.own.seen.head; entries = none i }) ∷ rest i

pub new-sound : (scid : ℕ) (list : List Settings) (m : Staffed) → IsNewlyStaffed scid list m → IsSound m
new-sound scid list m new = record {
  knows = new.knows;
  named = ap vcids_of new.settings ∙ sym new.vcids;
  seen = λ k d lt. let none = ap (length {A = ℕ × Event}) (new.nothing k d lt) in omega (arith, none);
  ahead = λ k d w at here made.
      let none = no-event d.own made (was-there (λ (x : AtLock). x.own.made ≡ []) m.operator.desks k d at new.nothing) in
      let head : slice_get m.station.heads k ≡ Some d.own.seen.head =
      ap (λ (l : List Identity). slice_get l k) (sym new.knows) ∙ mapped-at (λ (x : AtLock). x.own.seen.head) m.operator.desks k d at in
      let one = new.watchers.1 k w here in
      let same : one.0 ≡ d.own.seen.head = same_Some one.0 d.own.seen.head (sym one.1 ∙ head) in
      (one.3 ∙ ap (λ (h : Identity). h.settings) same, (w.seen.journal, ap (λ (l : List Event). l ++ w.seen.journal) none));
}

pub new-rack : (scid : ℕ) (list : List Settings) (m : Staffed) → IsNewlyStaffed scid list m → AreAlone m.operator.desks → rack_of m ≡ new_rack scid list
new-rack scid list m new alone =
    let channels : map channel_at m.operator.desks ≡ map new_linked list =
    new-channels m.operator.desks alone new.nothing
    ∙ (ap (λ (hs : List Identity). map new_linked (map (λ (h : Identity). h.settings) hs)) new.knows ∙ ap (map new_linked) new.settings) in
    λ i. record { scid = new.spacecraft i; channels = channels i }

-- ---- a station that is closed together with its operator

module _ (laws : AloneLaws) where
  one-closed : (owned_desk d : AtLock) (c : History) → HasSeenItsOwn d.own → IsClosed owned_desk (d ∷ []) c → HasMadeAll d.own × (c ≡ history_of d.own.seen)
  one-closed owned_desk d c own closed =
      let behind : IsBeginning d.own.seen (record { head = owned_desk.own.seen.head; entries = c.journal }) = closed.seen 0 d.own refl in
      let whole = laws.whole d.own c.journal own (refl, behind.1) closed.merge in
      (whole.0, λ i. record { settings = (closed.settings ∙ ap (λ (h : Identity). h.settings) behind.0) i; journal = sym whole.1 i })

  -- if a station is closed together with its one operator, the operator has made all events, and has seen the channels as
  -- they are when they are closed
  pub closed-alone : (m : Staffed) (closed : List History) → AreSeen m.operator.desks → locks_of m.operator.desks ≡ m.station.locks → AreClosedTogether m.station (m.operator ∷ []) closed
      → AreAlone m.operator.desks × (closed ≡ histories (rack_of m))
  closed-alone m closed seen locks (owned_desks, owned, all) =
      let desks = m.operator.desks in
      let lock : AtLock → TableId = λ d. d.lock in
      let long : length owned_desks ≡ length desks =
      sym (length-map owned_desks lock) ∙ (ap (length {A = TableId}) (owned.0 ∙ sym locks) ∙ length-map desks lock) in
      let each : (place : ℕ) (d : AtLock) (c : History) → slice_get desks place ≡ Some d → slice_get closed place ≡ Some c → HasMadeAll d.own × (c ≡ history_of d.own.seen) =
      λ place d c at here.
      let inside = slice_get_within desks place d at in
      let owned_desk = get_or owned_desks place d in
      let owned_desk_at : slice_get owned_desks place ≡ Some owned_desk = slice_get-get_or owned_desks place d (omega (arith, inside, long)) in
      let one : IsClosed owned_desk (get_or desks place nobody ∷ []) c = all.each place owned_desk c owned_desk_at here in
      let mine : IsClosed owned_desk (d ∷ []) c = subst (λ (x : AtLock). IsClosed owned_desk (x ∷ []) c) (get_or_from_slice_get desks place d nobody at) one in
      one-closed owned_desk d c (was-there (λ (x : AtLock). HasSeenItsOwn x.own) desks place d at seen) mine in
      let count : length closed ≡ length desks = all.as_many ∙ long in (
        λ k d lt. (each k (get_or desks k d) (get_or closed k (history_of d.own.seen)) (slice_get-get_or desks k d lt) (slice_get-get_or closed k (history_of d.own.seen) (omega (arith, lt, count)))).0,
        same-mapped (λ (d : AtLock). history_of d.own.seen) desks closed count (λ place d c at here. (each place d c at here).1) ∙ sym (map-map (λ (c : Linked). c.history) channel_at desks),
      )
