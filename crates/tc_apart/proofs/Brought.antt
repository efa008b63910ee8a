-- The actions of a course at a station: the events that other threads made between them.
use Rattle.tc_apart.proofs.Names.{Action, Arrive, AtLock, Bringer, Event, Frame, HasActed, HasMade, HasMadeNone, HaveActed, Hear, History, Idle, IsEarlier, IsMetCallAt, List, Moment, Ok, Other, Own, Release, Send, Some, Take, TakeUnit, Turn, [], action_of, ap, append-nil, append_assoc, arith, events_at, flat_map, history_of, length, length-append, made, map, refl, same_Some, set-there, slice_get, subst, sym, take, thread_after, with_places, zero, suc, ℕ, Bool, ◌++◌, ◌+◌, ◌∙◌, ◌∷◌, ◌≡◌}
use Rattle.tc_apart.proofs.Woven.{AreCalm, Block, IsAtOnce, action_in, flow}
use Rattle.tc_apart.proofs.Owners.{placed}

-- Between two states of a thread, other threads made the events `others`, and then the thread made the events `own` at
-- the channel with this place.
pub record IsPassed (place : ℕ) (own : List Event) (early : Bringer) (there : AtLock) (late : Bringer) : Type 0 where
  pub others : List Event
  pub next : AtLock
  pub here : slice_get late.operator.desks place ≡ Some next
  pub journal : late.watcher.seen.journal ≡ early.watcher.seen.journal ++ (others ++ own)
  pub settings : late.watcher.seen.settings ≡ early.watcher.seen.settings
  pub made : next.own.made ≡ there.own.made ++ with_places (length early.watcher.seen.journal + length others) own

-- a thread that does nothing
at-rest : (place : ℕ) (early : Bringer) (there : AtLock) (late : Bringer) → late ≡ early → slice_get early.operator.desks place ≡ Some there
    → (p : IsPassed place [] early there late) × (p.others ≡ [])
at-rest place early there late same at = (
  record {
    others = [];
    next = there;
    here = ap (λ (b : Bringer). slice_get b.operator.desks place) same ∙ at;
    journal = ap (λ (b : Bringer). b.watcher.seen.journal) same ∙ sym (append-nil early.watcher.seen.journal);
    settings = ap (λ (b : Bringer). b.watcher.seen.settings) same;
    made = sym (append-nil there.own.made);
  },
  refl,
)

quiet : (place : ℕ) (early : Bringer) (there : AtLock) (late : Bringer) → HasMadeNone place early late → slice_get early.operator.desks place ≡ Some there → IsPassed place [] early there late
quiet place early there late q at =
    let same : q.before ≡ there = same_Some q.before there (sym q.was ∙ at) in
    record {
      others = q.later.1.0;
      next = q.after;
      here = q.is;
      journal = sym q.later.1.1 ∙ ap (λ (es : List Event). early.watcher.seen.journal ++ es) (sym (append-nil q.later.1.0));
      settings = q.later.0;
      made = q.same ∙ ap (λ (d : AtLock). d.own.made) same ∙ sym (append-nil there.own.made);
    }

-- an operation that was answered
called : {R F : Type 0} (place vcid : ℕ) (e : Event) (ok : Moment → R → Type 0) (err : Moment → F → Type 0) (early : Bringer) (there : AtLock) (late : Bringer) (r : R)
    → IsMetCallAt place vcid e ok err early.watcher early.operator (Ok r) late.watcher late.operator → slice_get early.operator.desks place ≡ Some there → IsPassed place (e ∷ []) early there late
called place vcid e ok err early there late r m at =
    let c = m.at in
    let same : c.there ≡ there = same_Some c.there there (sym c.was ∙ at) in
    let now = c.call.now in
    let after : c.next.own ≡ made e now c.there.own = c.call.answer.1 in
    let seen : IsEarlier early.watcher.seen (history_of now) = c.call.answer.0.1 in
    let rest = seen.1.0 in
    let met : late.watcher.seen ≡ history_of c.next.own.seen = m.met.1 in
    let count : length now.entries ≡ length early.watcher.seen.journal + length rest =
    sym (ap (length {A = Event}) seen.1.1) ∙ length-append early.watcher.seen.journal rest in
    record {
      others = rest;
      next = c.next;
      here = ap (λ (l : List AtLock). slice_get l place) c.others ∙ set-there early.operator.desks place c.there c.next c.was;
      journal =
          ap (λ (h : History). h.journal) met ∙ ap (λ (o : Own). o.seen.entries) after ∙ ap (λ (es : List Event). es ++ e ∷ []) (sym seen.1.1)
          ∙ append_assoc early.watcher.seen.journal rest (e ∷ []);
      settings = ap (λ (h : History). h.settings) met ∙ ap (λ (o : Own). o.seen.head.settings) after ∙ seen.0;
      made = ap (λ (o : Own). o.made) after ∙ (λ i. (same i).own.made ++ (count i, e) ∷ []);
    }

made-passed : (grows : Bool) (place vcid : ℕ) (e : Event) (early : Bringer) (there : AtLock) (late : Bringer) → HasMade grows place vcid early e late → slice_get early.operator.desks place ≡ Some there
    → IsPassed place (e ∷ []) early there late
made-passed grows place vcid (Frame octets) early there late h at = called place vcid (Frame octets) _ _ early there late h.0 h.1 at
made-passed grows place vcid Release early there late h at = called place vcid Release _ _ early there late h.0 h.1 at
made-passed grows place vcid (Take apid) early there late h at = called place vcid (Take apid) _ _ early there late h.0 h.1 at
made-passed grows place vcid (TakeUnit map_id) early there late h at = called place vcid (TakeUnit map_id) _ _ early there late h.0 h.1 at

-- What an action of a course with the events `own` comes to. No event of another thread comes before one of the sender's.
abbrev Passes : ℕ → Bringer → AtLock → Bringer → Action → List Event → Type 0
Passes place early there late action own = (p : IsPassed place own early there late) × (IsAtOnce action → p.others ≡ [])

acted-passed : (grows : Bool) (place vcid : ℕ) (action : Action) (own : List Event) (early : Bringer) (there : AtLock) (late : Bringer) → HasActed grows place vcid early action own late
    → slice_get early.operator.desks place ≡ Some there → Passes place early there late action own
acted-passed grows place vcid (Send i) own early there late a at =
    let p = at-rest place early there late a.1 at in subst (Passes place early there late (Send i)) (sym a.0) (p.0, λ once. p.1)
acted-passed grows place vcid (Hear m) own early there late a at =
    let p = at-rest place early there late a.1 at in subst (Passes place early there late (Hear m)) (sym a.0) (p.0, λ once. p.1)
acted-passed grows place vcid (Arrive i s) own early there late a at =
    subst (Passes place early there late (Arrive i s)) (sym a.1) (made-passed grows place vcid a.0 early there late a.2 at, λ once. absurd once)
acted-passed grows place vcid (Other e) own early there late a at =
    subst (Passes place early there late (Other e)) (sym a.1) (made-passed grows place vcid a.0 early there late a.2 at, λ once. absurd once)
acted-passed grows place vcid Idle own early there late a at =
    subst (Passes place early there late Idle) (sym a.0) (quiet place early there late a.1 at, λ once. absurd once)

one-first : (own later rest : List Event) (e f : Event) → own ≡ e ∷ [] → own ++ later ≡ f ∷ rest → (own ≡ f ∷ []) × (later ≡ rest)
one-first own later rest e f one is =
    let both : e ∷ later ≡ f ∷ rest = sym (ap (λ (es : List Event). es ++ later) one) ∙ is in
    let same : e ≡ f = cc in
    (one ∙ ap (λ (x : Event). x ∷ []) same, cc)

-- if the thread made the events that the actions stand for, it made those of the first action first
own-so : (grows : Bool) (place vcid : ℕ) (frames : ℕ → List ℕ) (action : Action) (own later rest : List Event) (early late : Bringer) → HasActed grows place vcid early action own late
    → own ++ later ≡ events_at frames action ++ rest → (own ≡ events_at frames action) × (later ≡ rest)
own-so grows place vcid frames (Send i) own later rest early late a is = (a.0, sym (ap (λ (es : List Event). es ++ later) a.0) ∙ is)
own-so grows place vcid frames (Hear m) own later rest early late a is = (a.0, sym (ap (λ (es : List Event). es ++ later) a.0) ∙ is)
own-so grows place vcid frames Idle own later rest early late a is = (a.0, sym (ap (λ (es : List Event). es ++ later) a.0) ∙ is)
own-so grows place vcid frames (Arrive i s) own later rest early late a is = one-first own later rest a.0 (Frame (frames i)) a.1 is
own-so grows place vcid frames (Other e) own later rest early late a is = one-first own later rest a.0 e a.1 is

-- The actions of a thread as blocks. At each moment its watcher has seen the events of the blocks before this moment.
pub record IsBlocked (place : ℕ) (frames : ℕ → List ℕ) (start : Bringer) (there : AtLock) (turns : List Turn) : Type 0 where
  pub blocks : List Block
  pub same : map action_in blocks ≡ map action_of turns
  pub calm : AreCalm blocks
  pub last : AtLock
  pub here : slice_get (thread_after start turns (length turns)).operator.desks place ≡ Some last
  pub seen : (m : ℕ) → (thread_after start turns m).watcher.seen.journal ≡ start.watcher.seen.journal ++ flow frames [] (take m blocks)
  pub settings : (m : ℕ) → (thread_after start turns m).watcher.seen.settings ≡ start.watcher.seen.settings
  pub made : last.own.made ≡ there.own.made ++ placed frames (length start.watcher.seen.journal) blocks

seen-at-first : (frames : ℕ → List ℕ) (start : Bringer) (m : ℕ) → (thread_after start [] m).watcher.seen.journal ≡ start.watcher.seen.journal ++ flow frames [] (take m [])
seen-at-first frames start zero = sym (append-nil start.watcher.seen.journal)
seen-at-first frames start (suc m) = sym (append-nil start.watcher.seen.journal)

settings-at-first : (start : Bringer) (m : ℕ) → (thread_after start [] m).watcher.seen.settings ≡ start.watcher.seen.settings
settings-at-first start zero = refl
settings-at-first start (suc m) = refl

-- one more action, before those that are blocks already
one-more : (place : ℕ) (frames : ℕ → List ℕ) (start : Bringer) (there : AtLock) (turn : Turn) (turns : List Turn) (p : IsPassed place (events_at frames turn.action) start there turn.after)
    → (IsAtOnce turn.action → p.others ≡ []) → IsBlocked place frames turn.after p.next turns → IsBlocked place frames start there (turn ∷ turns)
one-more place frames start there turn turns p calm more =
    let own = events_at frames turn.action in
    let count : length turn.after.watcher.seen.journal ≡ length start.watcher.seen.journal + length p.others + length own =
    omega (arith, ap (length {A = Event}) p.journal, length-append start.watcher.seen.journal (p.others ++ own), length-append p.others own) in
    record {
      blocks = record { others = p.others; action = turn.action } ∷ more.blocks;
      same = ap (λ (xs : List Action). turn.action ∷ xs) more.same;
      calm = (calm, more.calm);
      last = more.last;
      here = more.here;
      seen = seen;
      settings = settings;
      made = more.made ∙ ap (λ l. l ++ placed frames (length turn.after.watcher.seen.journal) more.blocks) p.made
          ∙ append_assoc there.own.made (with_places (length start.watcher.seen.journal + length p.others) own) (placed frames (length turn.after.watcher.seen.journal) more.blocks)
          ∙ ap (λ (n : ℕ). there.own.made ++ (with_places (length start.watcher.seen.journal + length p.others) own ++ placed frames n more.blocks)) count;
    } where
      seen : (m : ℕ) → (thread_after start (turn ∷ turns) m).watcher.seen.journal
          ≡ start.watcher.seen.journal ++ flow frames [] (take m (record { others = p.others; action = turn.action } ∷ more.blocks))
      seen zero = sym (append-nil start.watcher.seen.journal)
      seen (suc m) =
          more.seen m ∙ ap (λ (es : List Event). es ++ flow frames [] (take m more.blocks)) p.journal
          ∙ append_assoc start.watcher.seen.journal (p.others ++ events_at frames turn.action) (flow frames [] (take m more.blocks))
          ∙ ap (λ (es : List Event). start.watcher.seen.journal ++ es) (append_assoc p.others (events_at frames turn.action) (flow frames [] (take m more.blocks)))

      settings : (m : ℕ) → (thread_after start (turn ∷ turns) m).watcher.seen.settings ≡ start.watcher.seen.settings
      settings zero = refl
      settings (suc m) = more.settings m ∙ p.settings

pub blocked : (grows : Bool) (place vcid : ℕ) (frames : ℕ → List ℕ) (turns : List Turn) (came : List Event) (start : Bringer) (there : AtLock) → slice_get start.operator.desks place ≡ Some there
    → HaveActed grows place vcid start turns came → came ≡ flat_map (events_at frames) (map action_of turns) → IsBlocked place frames start there turns
blocked grows place vcid frames [] came start there at acted is = record {
  blocks = [];
  same = refl;
  calm = tt;
  last = there;
  here = at;
  seen = seen-at-first frames start;
  settings = settings-at-first start;
  made = sym (append-nil there.own.made);
}
blocked grows place vcid frames (turn ∷ turns) came start there at acted is =
    let own = acted.0 in
    let so = own-so grows place vcid frames turn.action own acted.1 (flat_map (events_at frames) (map action_of turns)) start turn.after acted.3 (sym acted.2 ∙ is) in
    let p = subst (Passes place start there turn.after turn.action) so.0 (acted-passed grows place vcid turn.action own start there turn.after acted.3 at) in
    one-more place frames start there turn turns p.0 p.1 (blocked grows place vcid frames turns acted.1 turn.after p.0.next p.0.here acted.4 so.1)
