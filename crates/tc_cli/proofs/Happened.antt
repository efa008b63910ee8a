-- The journal that results from the jobs of one channel, and the events that the worker of its list made.
use Rattle.std.proofs.Common.{◌≡◌, ℕ, List, [], ◌∷◌, ◌++◌, ◌⊎◌, Result, Ok, Err, get_or, inl, inr, refl, sym, ap, ◌∙◌, subst, ◌≢◌, ◌==◌, Contains, slice_index_or, arith}
use Rattle.tc_cli.proofs.Names.{AtLock, AtStation, BeginsWith, Event, HasMadeAll, HasSeenItsOwn, IsBeginning, IsCall, IsLocateFault, IsMergeOf, IsPlace, Job, LocateFault, Moment, Order, Own, Roster, Settings, eqb-true, get_or_from_slice_get, header_of, looked, made, made_by, no-fault, nobody, none-some, position-Some, same_Some, slice_get_within, Identity}
use Rattle.std.proofs.lemmas.List.{get_or-set_other, get_or-set_same}
use Rattle.tc_channel.specs.declared.event.Event.TheVariants as events
use Rattle.tc_desk.specs.Log.{nowhere}
use Rattle.tc_station.specs.Tried.{CanBeMade, CannotBeMade, IsTriedAt, IsTriedOn, IsJobMade, AreMade}
use Rattle.tc_station.specs.declared.work.Order.TheVariants as orders
use Rattle.tc_link.specs.declared.location.LocateFault.TheVariants.{Frame, OtherSpacecraft, UnknownChannel}

-- ---- octets that begin with a frame

-- octets begin with one frame at most
abbrev pub IsOneAtMost : Type 0
IsOneAtMost = (octets one other : List ℕ) → BeginsWith octets one → BeginsWith octets other → one ≡ other

-- octets that begin with a frame for a channel of the station have no fault
pub no-locate-fault : IsOneAtMost → (station : Roster) (octets frame : List ℕ) (fault : LocateFault)
    → BeginsWith octets frame → (header_of frame).scid ≡ station.scid → Contains station.vcids (header_of frame).vcid → IsLocateFault station octets fault → ⊥
no-locate-fault only station octets frame (Frame f) begins ours there why = none-some f (sym (no-fault octets frame begins) ∙ why)
no-locate-fault only station octets frame OtherSpacecraft begins ours there (other, from, apart) =
    apart (ap (λ (x : List ℕ). (header_of x).scid) (only octets other frame from begins) ∙ ours)
no-locate-fault only station octets frame UnknownChannel begins ours there (other, from, none) =
    none (subst (λ (x : List ℕ). Contains station.vcids (header_of x).vcid) (only octets frame other begins from.0) there)

-- ---- the journal that jobs make

-- the moment of a desk whose channel has these settings and this journal
abbrev pub moment : Settings → List Event → Moment
moment s journal = record { head = record { settings = s; board = nowhere.board }; entries = journal }

-- If the event can be made, it is appended to the journal. Otherwise the journal stays the same.
abbrev pub IsTriedNext : Settings → Event → List Event → List Event → Type 0
IsTriedNext s e old new = (CanBeMade e (moment s old) × (new ≡ old ++ e ∷ [])) ⊎ (CannotBeMade e (moment s old) × (new ≡ old))

-- a job of the channel leads from the first of these journals to the second
abbrev pub Happens : ℕ → ℕ → Settings → Order → List Event → List Event → Type 0
Happens scid vcid s (orders.Bring octets) old new =
    (frame : List ℕ) × BeginsWith octets frame × ((header_of frame).scid ≡ scid) × ((header_of frame).vcid ≡ vcid) × IsTriedNext s (events.Frame frame) old new
Happens scid vcid s orders.Release old new = IsTriedNext s events.Release old new
Happens scid vcid s (orders.Take apid) old new = IsTriedNext s (events.Take apid) old new
Happens scid vcid s (orders.TakeUnit map_id) old new = IsTriedNext s (events.TakeUnit map_id) old new

-- the jobs of the channel, carried out one after the other, lead from the first of these journals to the second
abbrev pub AllHappen : ℕ → ℕ → Settings → List Job → List Event → List Event → Type 0
AllHappen scid vcid s [] old new = new ≡ old
AllHappen scid vcid s (job ∷ jobs) old new = (mid : List Event) × Happens scid vcid s job.order old mid × AllHappen scid vcid s jobs mid new

pub one-more-happens : (scid vcid : ℕ) (s : Settings) (jobs : List Job) (job : Job) (old mid new : List Event)
    → AllHappen scid vcid s jobs old mid → Happens scid vcid s job.order mid new → AllHappen scid vcid s (jobs ++ job ∷ []) old new
one-more-happens scid vcid s [] job old mid new all one = (new, subst (λ (j : List Event). Happens scid vcid s job.order j new) all one, refl)
one-more-happens scid vcid s (first ∷ jobs) job old mid new (next, happens, rest) one = (next, happens, one-more-happens scid vcid s jobs job next mid new rest one)

not-both : (e : Event) (m : Moment) → CanBeMade e m → CannotBeMade e m → ⊥
not-both e m can cannot = grind arith

-- if an event can be made at `m`, it can also be made at `moment s j`, when `s` and `j` are the settings and the journal
-- of `m`
moved-can : (e : Event) (m : Moment) (s : Settings) (j : List Event) → m.head.settings ≡ s → m.entries ≡ j → CanBeMade e m → CanBeMade e (moment s j)
moved-can (events.Frame octets) m s j p q can = tt
moved-can e m s j p q can = subst (λ (x : Settings × List Event). CanBeMade e (moment x.0 x.1)) (λ i. (p i, q i)) can

moved-cannot : (e : Event) (m : Moment) (s : Settings) (j : List Event) → m.head.settings ≡ s → m.entries ≡ j → CannotBeMade e m → CannotBeMade e (moment s j)
moved-cannot (events.Frame octets) m s j p q cannot = cannot
moved-cannot e m s j p q cannot = subst (λ (x : Settings × List Event). CannotBeMade e (moment x.0 x.1)) (λ i. (p i, q i)) cannot

-- If an event can be made, the new journal is the old one followed by the event. Otherwise, by the next lemma, the journal
-- stays the same.
next-can : (e : Event) (m : Moment) (s : Settings) (old new : List Event) → m.head.settings ≡ s → m.entries ≡ old → CanBeMade e m → IsTriedNext s e old new → new ≡ old ++ e ∷ []
next-can e m s old new p q can (inl (there, is)) = is
next-can e m s old new p q can (inr (none, is)) = absurd (not-both e (moment s old) (moved-can e m s old p q can) none)

next-cannot : (e : Event) (m : Moment) (s : Settings) (old new : List Event) → m.head.settings ≡ s → m.entries ≡ old → CannotBeMade e m → IsTriedNext s e old new → new ≡ old
next-cannot e m s old new p q cannot (inl (there, is)) = absurd (not-both e (moment s old) there (moved-cannot e m s old p q cannot))
next-cannot e m s old new p q cannot (inr (none, is)) = is

-- ---- the events that a worker makes

-- the laws that these proofs rest on
pub record WorkLaws : Type 0 where
  pub frame : IsOneAtMost
  pub event : (before : Own) (now : Moment) (e : Event) → HasSeenItsOwn before → IsBeginning before.seen now → HasMadeAll (made e now before) → HasMadeAll before × (now ≡ before.seen)
  pub look : (before : Own) (now : Moment) → HasSeenItsOwn before → IsBeginning before.seen now → HasMadeAll (looked now before) → HasMadeAll before × (now ≡ before.seen)
  pub seen : (before : Own) (now : Moment) (e : Event) → HasSeenItsOwn before → IsBeginning before.seen now → HasSeenItsOwn (made e now before) × HasSeenItsOwn (looked now before)
  pub maker : (makers : List Own) (k : ℕ) (own : Own) (journal : List Event) → made_by makers k ≡ own.made → ((j : ℕ) → j ≢ k → made_by makers j ≡ []) → HasSeenItsOwn own
      → IsBeginning own.seen (record { head = own.seen.head; entries = journal }) → IsMergeOf journal makers → HasMadeAll own × (own.seen.entries ≡ journal)

-- the operator's desk at this place, or `nobody` if there is none
abbrev pub desk_at : ℕ → AtStation → AtLock
desk_at place o = slice_index_or o.desks place nobody

-- at this desk, the operator has seen these settings and this journal
abbrev pub HasSeen : Settings → List Event → AtLock → Type 0
HasSeen s journal d = (d.own.seen.head.settings ≡ s) × (d.own.seen.entries ≡ journal)

-- These are a worker's accounts of a desk before and after jobs. Suppose that the worker has made all events that it
-- has seen after the jobs. Then it had also made all events that it had seen before the jobs. If it had then seen the
-- old journal, it has seen the new journal after the jobs.
abbrev IsMadeOf : Settings → List Event → List Event → AtLock → AtLock → Type 0
IsMadeOf s old new before after =
    HasSeenItsOwn before.own → HasSeenItsOwn after.own × (HasMadeAll after.own → HasMadeAll before.own × (HasSeen s old before → HasSeen s new after))

-- a worker made no event at any other desk, and `IsMadeOf` holds at the desk of its list
pub record IsWorkedAt (s : Settings) (place : ℕ) (old new : List Event) (before after : AtStation) : Type 0 where
  pub elsewhere : (other : ℕ) → other ≢ place → (desk_at other after).own.made ≡ (desk_at other before).own.made
  pub here : IsMadeOf s old new (desk_at place before) (desk_at place after)

worked-none : (s : Settings) (place : ℕ) (old new : List Event) (before after : AtStation) → new ≡ old → after ≡ before → IsWorkedAt s place old new before after
worked-none s place old new before after same still =
    subst (λ (x : List Event × AtStation). IsWorkedAt s place old x.0 before x.1) (λ i. (sym same i, sym still i))
    (record { elsewhere = λ other apart. refl; here = λ own. (own, λ all. (all, λ seen. seen)) })

worked-more : (s : Settings) (place : ℕ) (old mid new : List Event) (before between after : AtStation)
    → IsWorkedAt s place old mid before between → IsWorkedAt s place mid new between after → IsWorkedAt s place old new before after
worked-more s place old mid new before between after first second = record {
  elsewhere = λ other apart. second.elsewhere other apart ∙ first.elsewhere other apart;
  here = λ own.
      let one = first.here own in
      let two = second.here one.0 in (
        two.0,
        λ all.
            let last = two.1 all in
            let start = one.1 last.0 in
            (start.0, λ seen. last.1 (start.1 seen)),
      );
}

-- `IsMadeOf` holds for the desk of a call, if each of its parts holds for the operator's account `o` after the call
desk-grown : (there next : AtLock) (now : Moment) (o : Own) (s : Settings) (old new : List Event) → next.own ≡ o → o.seen.head ≡ now.head → (HasSeenItsOwn there.own → HasSeenItsOwn o)
    → (HasSeenItsOwn there.own → HasMadeAll o → HasMadeAll there.own × (now ≡ there.own.seen)) → (now.head.settings ≡ s → now.entries ≡ old → o.seen.entries ≡ new) → IsMadeOf s old new there next
desk-grown there next now o s old new is head its law journal = λ own. (
  subst HasSeenItsOwn (sym is) (its own),
  λ all.
      let one = law own (subst HasMadeAll is all) in (
        one.0,
        λ seen.
            let settings : now.head.settings ≡ s = ap (λ (m : Moment). m.head.settings) one.1 ∙ seen.0 in
            let entries : now.entries ≡ old = ap (λ (m : Moment). m.entries) one.1 ∙ seen.1 in
            (ap (λ (x : Own). x.seen.head.settings) is ∙ (ap (λ (h : Identity). h.settings) head ∙ settings), ap (λ (x : Own). x.seen.entries) is ∙ journal settings entries),
      ),
)

module _ (laws : WorkLaws) where
  -- if an event is tried once at a desk, `IsMadeOf` holds for the desk
  tried-desk : (e : Event) (there next : AtLock) (r : Result (Unit {0}) (Unit {0})) (s : Settings) (old new : List Event)
      → IsCall e (λ m _. CanBeMade e m) (λ m _. CannotBeMade e m) there r next → IsTriedNext s e old new → IsMadeOf s old new there next
  tried-desk e there next (Ok u) s old new call tried =
      desk-grown there next call.now (made e call.now there.own) s old new call.answer.1 refl (λ own. (laws.seen there.own call.now e own call.later).0) (λ own. laws.event there.own call.now e own call.later)
      (λ settings entries. ap (λ (l : List Event). l ++ e ∷ []) entries ∙ sym (next-can e call.now s old new settings entries call.answer.0 tried))
  tried-desk e there next (Err u) s old new call tried =
      desk-grown there next call.now (looked call.now there.own) s old new call.answer.1 refl (λ own. (laws.seen there.own call.now e own call.later).1) (λ own. laws.look there.own call.now own call.later)
      (λ settings entries. entries ∙ sym (next-cannot e call.now s old new settings entries call.answer.0 tried))

  tried-at : (place vcid : ℕ) (e : Event) (s : Settings) (old new : List Event) (before after : AtStation)
      → IsTriedAt place vcid e before after → IsTriedNext s e old new → IsWorkedAt s place old new before after
  tried-at place vcid e s old new before after (r, c) tried =
      let inside = slice_get_within before.desks place c.there c.was in
      let was : desk_at place before ≡ c.there = get_or_from_slice_get before.desks place c.there nobody c.was in
      let is : desk_at place after ≡ c.next = ap (λ (l : List AtLock). get_or l place nobody) c.others ∙ get_or-set_same before.desks place c.next nobody inside in
      let one = tried-desk e c.there c.next r s old new c.call tried in
      record {
        elsewhere = λ other apart.
            ap (λ (d : AtLock). d.own.made) (ap (λ (l : List AtLock). get_or l other nobody) c.others ∙ get_or-set_other before.desks place other c.next nobody apart);
        here = subst (λ (x : AtLock × AtLock). IsMadeOf s old new x.0 x.1) (λ i. (sym was i, sym is i)) one;
      }

  same-place : (station : Roster) (vcid one other : ℕ) → IsPlace station vcid one → IsPlace station vcid other → one ≡ other
  same-place station vcid one other a b = same_Some one other (sym a ∙ b)

  contained : (station : Roster) (vcid place : ℕ) → IsPlace station vcid place → Contains station.vcids vcid
  contained station vcid place at =
      let passes = position-Some (λ v. v == vcid) station.vcids place vcid at in
      (place, passes.0, eqb-true (get_or station.vcids place vcid) vcid passes.1)

  tried-on : (station : Roster) (place vcid : ℕ) (e : Event) (s : Settings) (old new : List Event) (before after : AtStation)
      → IsPlace station vcid place → IsTriedOn station vcid e before after → IsTriedNext s e old new → IsWorkedAt s place old new before after
  tried-on station place vcid e s old new before after here (inl (other, at, call)) tried =
      tried-at place vcid e s old new before after (subst (λ (p : ℕ). IsTriedAt p vcid e before after) (same-place station vcid other place at here) call) tried
  tried-on station place vcid e s old new before after here (inr (none, still)) tried = absurd (none (contained station vcid place here))

  job-worked : (station : Roster) (place vcid : ℕ) (order : Order) (s : Settings) (old new : List Event) (before after : AtStation)
      → IsPlace station vcid place → Happens station.scid vcid s order old new → IsJobMade station vcid order before after → IsWorkedAt s place old new before after
  job-worked station place vcid (orders.Bring octets) s old new before after here (frame, begins, ours, id, tried) (inl (other, v, brought, placed, call)) =
      let same : brought ≡ frame = laws.frame octets brought frame placed.0.0.0 begins in
      let same_id : v ≡ vcid = sym placed.0.1 ∙ (ap (λ (x : List ℕ). (header_of x).vcid) same ∙ id) in
      let at : IsPlace station vcid other = subst (λ (x : ℕ). IsPlace station x other) same_id placed.1 in
      let there : other ≡ place = same-place station vcid other place at here in
      tried-at place v (events.Frame frame) s old new before after
      (subst (λ (x : ℕ × List ℕ). IsTriedAt x.0 v (events.Frame x.1) before after) (λ i. (there i, same i)) call) tried
  job-worked station place vcid (orders.Bring octets) s old new before after here (frame, begins, ours, id, tried) (inr (fault, why, still)) =
      absurd (no-locate-fault laws.frame station octets frame fault begins ours (subst (Contains station.vcids) (sym id) (contained station vcid place here)) why)
  job-worked station place vcid orders.Release s old new before after here happens made = tried-on station place vcid events.Release s old new before after here made happens
  job-worked station place vcid (orders.Take apid) s old new before after here happens made = tried-on station place vcid (events.Take apid) s old new before after here made happens
  job-worked station place vcid (orders.TakeUnit map_id) s old new before after here happens made =
      tried-on station place vcid (events.TakeUnit map_id) s old new before after here made happens

  -- if the jobs of a list are carried out one after the other, `IsWorkedAt` holds at the place of the list's channel
  pub list-worked : (station : Roster) (place vcid : ℕ) (jobs : List Job) (s : Settings) (old new : List Event) (before after : AtStation)
      → IsPlace station vcid place → AllHappen station.scid vcid s jobs old new → AreMade station vcid jobs before after → IsWorkedAt s place old new before after
  list-worked station place vcid [] s old new before after here happen made = worked-none s place old new before after happen made
  list-worked station place vcid (job ∷ jobs) s old new before after here (mid, happens, rest) (between, one, more) =
      worked-more s place old mid new before between after
      (job-worked station place vcid job.order s old mid before between here happens one)
      (list-worked station place vcid jobs s mid new between after here rest more)
