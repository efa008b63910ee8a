-- A course at a station, and the channel that the close of the station returns.
use Rattle.tc_apart.proofs.Names.{AllByRecursion, AreClosedTogether, AtLock, AtStation, BringsAll, Course, Event, History, Identity, IsBeginning, IsClosed, IsCourse, IsEraOf, IsLoopAt, IsOther, List, None, Option, Own, Roster, Some, [], accounts_of, ap, append_assoc, arith, column, eqb_tells, get_or_from_slice_get, inl, inr, length, length-append, length-map, all-append, get-append, slice_get_within, made_by, no_limits, nobody, none-some, operator_lists_of, refl, same_Some, settings_in, slice_get, slice_index_or, subst, suc, sym, take, take_all, thread_behind, unwrap_or, unwrap_or-slice_get, zero, ℕ, Bool, ◌++◌, ◌+◌, ◌∙◌, ◌∷◌, ◌≡◌, ◌≤◌, Action, Send, action_of, actions_of, events, events_at, AreFrom, AreGivenOf, AreNumbered, CanBeSent, Header, Makes, Queue, SendsOnly, UnitSent, journal, packets-of-loop, passed-on, passed_since, queue_of, released_since, run_within, sent, sent_from, units_on}
use mathlib.Core.Option.{some}
use lib.ListN.{get_elem?}
use Rattle.tc_apart.proofs.Brought.{IsBlocked, blocked}
use Rattle.tc_apart.proofs.Filled.{IsWoven, loop-so, was-so}
use Rattle.tc_apart.proofs.GivenOut.{closed-there, of-channel, settings-given}
use Rattle.tc_apart.proofs.Owners.{AreOtherBeside, AreSo, IsNoneOf, beside-other, each-place, get-right, none-of-itself, none-placed-below, placed, weaker}
use Rattle.tc_apart.proofs.Woven.{AreFilled, AreOther, Block, action_in, flow}

-- the k-th account at the desk at a place is the account that the k-th operator has there
account-there : (operators : List AtStation) (place k : ℕ) (o : AtStation) (d : AtLock) → slice_get operators k ≡ Some o → slice_get o.desks place ≡ Some d
    → get_elem? (accounts_of (column place (operator_lists_of operators))) k ≡ some d.own
account-there [] place k o d at there = absurd (none-some o at)
account-there (p ∷ ops) place zero o d at there =
    ap (λ (x : AtStation). some (slice_index_or x.desks place nobody).own) (same_Some p o at) ∙ ap (λ (x : AtLock). some x.own) (get_or_from_slice_get o.desks place d nobody there)
account-there (p ∷ ops) place (suc k) o d at there = account-there ops place k o d at there

made-at : (accounts : List Own) (k : ℕ) (own : Own) → get_elem? accounts k ≡ some own → made_by accounts k ≡ own.made
made-at [] k own at = absurd cc
made-at (a ∷ accounts) zero own at = let q : a ≡ own = cc in ap (λ (x : Own). x.made) q
made-at (a ∷ accounts) (suc k) own at = made-at accounts k own at

nobody-there : (desks : List AtLock) (place : ℕ) → slice_get desks place ≡ None → slice_index_or desks place nobody ≡ nobody
nobody-there desks place none = sym (unwrap_or-slice_get desks place nobody) ∙ ap (λ (x : Option AtLock). unwrap_or x nobody) none

made-of-one : (P : ℕ × Event → Type 0) (o : AtStation) (place : ℕ) (x : Option AtLock) → slice_get o.desks place ≡ x
    → ((d : AtLock) → slice_get o.desks place ≡ Some d → AllByRecursion P d.own.made) → AllByRecursion P (slice_index_or o.desks place nobody).own.made
made-of-one P o place None none all = subst (λ (d : AtLock). AllByRecursion P d.own.made) (sym (nobody-there o.desks place none)) tt
made-of-one P o place (Some d) here all = subst (λ (d : AtLock). AllByRecursion P d.own.made) (sym (get_or_from_slice_get o.desks place d nobody here)) (all d here)

-- if all events that an operator made at a desk have a property, so have those of its account
made-of : (P : ℕ × Event → Type 0) (operators : List AtStation) (place k : ℕ)
    → ((o : AtStation) (d : AtLock) → slice_get operators k ≡ Some o → slice_get o.desks place ≡ Some d → AllByRecursion P d.own.made)
    → AllByRecursion P (made_by (accounts_of (column place (operator_lists_of operators))) k)
made-of P [] place k all = tt
made-of P (o ∷ operators) place zero all = made-of-one P o place (slice_get o.desks place) refl (λ d here. all o d refl here)
made-of P (o ∷ operators) place (suc k) all = made-of P operators place k all

flow-behind : (frames : ℕ → List ℕ) (tail : List Event) (bs : List Block) → flow frames [] bs ++ tail ≡ flow frames tail bs
flow-behind frames tail [] = refl
flow-behind frames tail (b ∷ bs) =
    let own = events_at frames b.action in
    append_assoc b.others (own ++ flow frames [] bs) tail
    ∙ ap (λ (es : List Event). b.others ++ es) (append_assoc own (flow frames [] bs) tail ∙ ap (λ (es : List Event). own ++ es) (flow-behind frames tail bs))

module _ (grows : Bool) (station : Roster) (operators : List AtStation) (closed : List History) (place : ℕ) (channel : History) (c : Course) (number : ℕ)
    (together : AreClosedTogether station operators closed) (out : slice_get closed place ≡ Some channel) (there : slice_get (settings_in station) place ≡ Some c.loop.settings)
    (came : List Event) (k : IsCourse grows place c came) (is : came ≡ events c.loop (actions_of c)) (b : BringsAll place c operators number) where
  abbrev accounts : List Own
  accounts = accounts_of (column place (operator_lists_of operators))

  one : (owned_desk : AtLock) × IsClosed owned_desk (column place (operator_lists_of operators)) channel × (slice_get (settings_in station) place ≡ Some channel.settings)
  one = closed-there station operators closed place channel together out

  abbrev first : List Event
  first = c.start.watcher.seen.journal

  chain : IsBlocked place c.loop.frames c.start b.desk c.turns
  chain = blocked grows place c.loop.settings.vcid c.loop.frames c.turns came c.start b.desk b.there k.acted is

  account : get_elem? accounts number ≡ some b.last.own
  account = account-there operators place number (thread_behind c).operator b.last b.among b.here

  begun : IsBeginning b.last.own.seen (record { head = one.0.own.seen.head; entries = channel.journal })
  begun = one.1.seen number b.last.own account

  many : length chain.blocks ≤ length c.turns
  many =
      let a = length-map chain.blocks action_in in
      let z = length-map c.turns action_of in
      let same = ap (length {A = Action}) chain.same in
      omega arith

  -- the journal has the events that the thread had seen at first, those of the blocks, and those behind them
  whole : channel.journal ≡ first ++ flow c.loop.frames begun.1.0 chain.blocks
  whole =
      sym begun.1.1
      ∙ ap (λ (es : List Event). es ++ begun.1.0) (sym (ap (λ (h : History). h.journal) b.met.1) ∙ chain.seen (length c.turns)
      ∙ ap (λ (bs : List Block). first ++ flow c.loop.frames [] bs) (take_all (length c.turns) chain.blocks many))
      ∙ append_assoc first (flow c.loop.frames [] chain.blocks) begun.1.0
      ∙ ap (λ (es : List Event). first ++ es) (flow-behind c.loop.frames begun.1.0 chain.blocks)

  abbrev mine : List (ℕ × Event)
  mine = placed c.loop.frames (length first) chain.blocks

  made-by-thread : made_by accounts number ≡ b.desk.own.made ++ mine
  made-by-thread =
      made-at accounts number b.last.own account ∙ ap (λ (d : AtLock). d.own.made) (same_Some b.last chain.last (sym b.here ∙ chain.here)) ∙ chain.made

  -- in the era, a place that isn't one of the course has no Type-AD frame
  abbrev IsFree : ℕ → Event → Type 0
  IsFree n e = length c.loop.before ≤ n → IsNoneOf n mine → IsOther e

  made-so : (j : ℕ) → AreSo IsFree (made_by accounts j)
  made-so j = elim (eqb_tells j number) [
    | inl own ↦
        subst (λ (n : ℕ). AreSo IsFree (made_by accounts n)) (sym own.1) (subst (AreSo IsFree) (sym made-by-thread)
        (all-append (λ (p : ℕ × Event). IsFree p.0 p.1) b.desk.own.made mine
        (weaker (λ (p : ℕ × Event). length c.loop.before ≤ p.0 → IsOther p.1) (λ (p : ℕ × Event). IsFree p.0 p.1) b.desk.own.made b.early (λ p so low none. so low))
        (weaker (λ (p : ℕ × Event). IsNoneOf p.0 mine → IsOther p.1) (λ (p : ℕ × Event). IsFree p.0 p.1) mine (none-of-itself IsOther mine) (λ p so low none. so none))))
    | inr other ↦ made-of (λ (p : ℕ × Event). IsFree p.0 p.1) operators place j (λ o d at here.
        weaker (λ (p : ℕ × Event). length c.loop.before ≤ p.0 → IsOther p.1) (λ (p : ℕ × Event). IsFree p.0 p.1) d.own.made (b.others j o d other.1 at here) (λ p so low none. so low))
  ]

  free-at : (x : ℕ) (e : Event) → slice_get channel.journal x ≡ Some e → IsFree x e
  free-at x e here =
      let merge = one.1.merge in
      let is : 0 + x ≡ x = omega arith in
      subst (λ (n : ℕ). IsFree n e) is (each-place IsFree 0 merge.owners channel.journal merge.long (λ j. subst (AreSo IsFree) (sym (merge.parts j)) (made-so j)) x e here)

  longer : length first ≡ length c.loop.before + length b.seen.0
  longer = sym (ap (length {A = Event}) b.seen.1) ∙ length-append c.loop.before b.seen.0

  lead-other : AreOther b.seen.0
  lead-other i e here =
      let x = length c.loop.before + i in
      let at : slice_get first x ≡ Some e = ap (λ (es : List Event). slice_get es x) (sym b.seen.1) ∙ (get-right c.loop.before b.seen.0 i ∙ here) in
      let low = slice_get_within b.seen.0 i e here in
      free-at x e (ap (λ (es : List Event). slice_get es x) whole ∙ get-append first (flow c.loop.frames begun.1.0 chain.blocks) x e at) (omega arith)
      (none-placed-below c.loop.frames (length first) chain.blocks x (omega (arith, longer)))

  all-beside : AreOtherBeside c.loop.frames (length first) begun.1.0 chain.blocks
  all-beside x e here none =
      let y = length first + x in
      free-at y e (ap (λ (es : List Event). slice_get es y) whole ∙ (get-right first (flow c.loop.frames begun.1.0 chain.blocks) x ∙ here)) (omega (arith, longer)) none

  filled : AreFilled chain.blocks × AreOther begun.1.0
  filled = beside-other c.loop.frames (length first) begun.1.0 chain.blocks all-beside

  settings-behind : (thread_behind c).watcher.seen.settings ≡ channel.settings
  settings-behind = ap (λ (h : History). h.settings) b.met.1 ∙ (sym (ap (λ (h : Identity). h.settings) begun.0) ∙ sym one.1.settings)

  same-settings : c.loop.settings ≡ channel.settings
  same-settings = settings-given station operators closed place channel c.loop.settings together out there

  woven-so : IsWoven c channel
  woven-so = record {
    lead = b.seen.0;
    blocks = chain.blocks;
    tail = begun.1.0;
    same = chain.same;
    calm = chain.calm;
    lead_other = lead-other;
    filled = filled.0;
    tail_other = filled.1;
    settings = same-settings;
    whole = whole ∙ ap (λ (es : List Event). es ++ flow c.loop.frames begun.1.0 chain.blocks) (sym b.seen.1) ∙ append_assoc c.loop.before b.seen.0 (flow c.loop.frames begun.1.0 chain.blocks);
    seen = λ m most.
        chain.seen m ∙ ap (λ (es : List Event). es ++ flow c.loop.frames [] (take m chain.blocks)) (sym b.seen.1)
        ∙ append_assoc c.loop.before b.seen.0 (flow c.loop.frames [] (take m chain.blocks));
    kept = λ m most. chain.settings m ∙ sym (chain.settings (length c.turns)) ∙ settings-behind;
  }

  pub loop-at : c.loop.limits ≡ no_limits → IsEraOf c channel → IsLoopAt c channel
  loop-at free o = loop-so grows place c channel free came k o woven-so

-- if the sender sends only its first n frames in the course, it sends no other frame in the loop
sends-only : (c : Course) (channel : History) (m : IsLoopAt c channel) (n : ℕ) → SendsOnly n (actions_of c) → SendsOnly n m.session
sends-only c channel m n only x i here = elim (m.filled.only x (Send i) here) [
  | inl (e, is, other) ↦ absurd cc
  | inr (t, a, get, when, same) ↦ only t i (get ∙ ap (λ (x : Action). Some x) (was-so m.at (Send i) a same))
]

pub passed-at : (c : Course) (channel : History) → c.loop.limits ≡ no_limits → IsLoopAt c channel
    → passed_since no_limits channel.settings c.loop.before (run_within no_limits channel.settings channel.journal).passed
    ≡ sent_from (sent c.loop) 0 (released_since no_limits channel.settings c.loop.before channel.journal)
passed-at c channel free m =
    of-channel (λ limits s es. passed_since limits s c.loop.before (run_within limits s es).passed ≡ sent_from (sent c.loop) 0 (released_since limits s c.loop.before es))
    c.loop.limits c.loop.settings (journal c.loop m.session) channel free (sym m.settings) m.whole (passed-on c.loop m.session m.loop)

pub given-at : Makes → (c : Course) (channel : History) (header : Header) (units : List UnitSent) (frames : List (List ℕ)) (apid : ℕ) (q : Queue) → c.loop.limits ≡ no_limits → IsLoopAt c channel
    → AllByRecursion (CanBeSent c.loop.limits c.loop.settings.segmented) units → AreNumbered c.loop.settings.segmented header units frames → AreFrom c.loop.frames frames
    → SendsOnly (length frames) (actions_of c) → queue_of apid (run_within no_limits channel.settings channel.journal).queues ≡ Some q
    → AreGivenOf no_limits channel.settings apid c.loop.before channel.journal (length frames) (units_on units)
given-at makes c channel header units frames apid q free m can numbered are only has =
    let there : queue_of apid (run_within c.loop.limits c.loop.settings (journal c.loop m.session)).queues ≡ Some q =
    (λ i. queue_of apid (run_within (free i) (sym m.settings i) (sym m.whole i)).queues) ∙ has in
    of-channel (λ limits s es. AreGivenOf limits s apid c.loop.before es (length frames) (units_on units))
    c.loop.limits c.loop.settings (journal c.loop m.session) channel free (sym m.settings) m.whole
    (packets-of-loop makes c.loop m.session header units frames apid q m.loop can numbered are (sends-only c channel m (length frames) only) there)
