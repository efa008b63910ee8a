-- The event of a call at a desk is at its place in the journal that the station's close returns.
use Rattle.tc_station.proofs.Names.{◌≡◌, ◌<◌, ℕ, zero, suc, List, [], ◌∷◌, length, get_or, take, Ok, Some, refl, sym, ap, subst, ◌∙◌, arith, slice_get, get_or-set_same, length-append, length-set, take_at, get_or_from_slice_get, none-some, same_Some, slice_get-get_or, slice_get_within, Event, History, made, AtLock, Identity, Moment, Own, accounts_of, column, nobody, IsCallAt, IsMetAt, Roster, AtStation, operator_lists_of, Watching, slice_index_or, slice_set, IsBeginning, clcw, Link, HasGoneOn, AreClosedTogether, IsItsLast, IsWordRead, IsShownIn}
use mathlib.Core.Option.{some}
use lib.ListN.{get_elem?}
use Rattle.logged_lock.proofs.Steps.{beginning-trans, prefix-trans}
use Rattle.tc_status.specs.Board as board

-- The station was closed together with its operators. One of them is this operator, which may have made more calls. The
-- channel is the one that the close returned at this place.
pub record IsClosedSince (station : Roster) (place : ℕ) (operator : AtStation) (channel : History) : Type 0 where
  pub operators : List AtStation
  pub closed : List History
  pub together : AreClosedTogether station operators closed
  pub out : slice_get closed place ≡ Some channel
  pub number : ℕ
  pub last : AtStation
  pub among : slice_get operators number ≡ Some last
  pub on : HasGoneOn place operator last

pub set-there : (desks : List AtLock) (place : ℕ) (d next : AtLock) → slice_get desks place ≡ Some d → slice_get (slice_set desks place next) place ≡ Some next
set-there desks place d next at =
    let inside : place < length (slice_set desks place next) = omega (arith, slice_get_within desks place d at, length-set desks place next) in
    slice_get-get_or (slice_set desks place next) place next inside ∙ ap (λ (x : AtLock). Some x) (get_or-set_same desks place next next (slice_get_within desks place d at))

pub owned_desk-there : (owned_desks : List AtLock) (n : ℕ) → n < length owned_desks → (owned_desk : AtLock) × (slice_get owned_desks n ≡ Some owned_desk)
owned_desk-there owned_desks n lt = (get_or owned_desks n nobody, slice_get-get_or owned_desks n nobody lt)

-- the k-th account at the desk at a place is the account that the k-th operator has there
account-there : (ops : List AtStation) (place k : ℕ) (o : AtStation) (d : AtLock) → slice_get ops k ≡ Some o → slice_get o.desks place ≡ Some d
    → get_elem? (accounts_of (column place (operator_lists_of ops))) k ≡ some d.own
account-there [] place k o d at there = absurd (none-some o at)
account-there (p ∷ ops) place zero o d at there =
    ap (λ (x : AtStation). some (slice_index_or x.desks place nobody).own) (same_Some p o at) ∙ ap (λ (x : AtLock). some x.own) (get_or_from_slice_get o.desks place d nobody there)
account-there (p ∷ ops) place (suc k) o d at there = account-there ops place k o d at there

-- the moment that an operator had seen at a desk is a beginning of the journal that was returned
seen-in-closed : (station : Roster) (place : ℕ) (o : AtStation) (channel : History) (there : AtLock) → slice_get o.desks place ≡ Some there → IsClosedSince station place o channel
    → (head : Identity) × (head.settings ≡ channel.settings) × IsBeginning there.own.seen (record { head = head; entries = channel.journal })
seen-in-closed station place o channel there at since =
    let all = since.together.2 in
    let inside = slice_get_within since.closed place channel since.out in
    let many = all.as_many in
    let owned_desk = owned_desk-there since.together.0 place (omega (arith, inside, many)) in
    let one = all.each place owned_desk.0 channel owned_desk.1 since.out in
    let closed : Moment = record { head = owned_desk.0.own.seen.head; entries = channel.journal } in
    let on = since.on in
    let same : on.before ≡ there = same_Some on.before there (sym on.was ∙ at) in
    let account = account-there since.operators place since.number since.last on.after since.among on.is in
    let begun : IsBeginning on.after.own.seen closed = one.seen since.number on.after.own account in
    let longer = subst (λ (d : AtLock). IsBeginning d.own.seen on.after.own.seen) same on.longer in
    (owned_desk.0.own.seen.head, sym one.settings, beginning-trans there.own.seen on.after.own.seen closed longer begun)

-- A law about desks that these proofs use. Suppose that a journal continues the moment after a call. Then the call's
-- event is an entry of the journal, and the entries before it are those of the moment at which the call was decided.
abbrev pub Stands : Type 0
Stands = (before : Own) (now : Moment) (e : Event) (closed : Moment) → IsBeginning (made e now before).seen closed
    → (slice_get closed.entries (length now.entries) ≡ Some e) × (now ≡ record { head = closed.head; entries = take (length now.entries) closed.entries })

pub answered : {R F : Type 0} → Stands → (station : Roster) (place vcid : ℕ) (e : Event) (ok : Moment → R → Type 0) (err : Moment → F → Type 0) (before after : AtStation) (r : R) (channel : History)
    → IsCallAt place vcid e ok err before (Ok r) after → IsClosedSince station place after channel
    → (head : Identity) × (n : ℕ) × (head.settings ≡ channel.settings) × (slice_get channel.journal n ≡ Some e) × ok (record { head = head; entries = take n channel.journal }) r × IsItsLast place after n e
answered stands station place vcid e ok err before after r channel c since =
    let at = ap (λ (l : List AtLock). slice_get l place) c.others ∙ set-there before.desks place c.there c.next c.was in
    let seen = seen-in-closed station place after channel c.next at since in
    let closed : Moment = record { head = seen.0; entries = channel.journal } in
    let answer = c.call.answer in
    let now = c.call.now in
    let begun = subst (λ (o : Own). IsBeginning o.seen closed) answer.1 seen.2 in
    let stood = stands c.there.own now e closed begun in
    (seen.0, length now.entries, seen.1, stood.0, subst (λ (m : Moment). ok m r) stood.1 answer.0, (c.next, at, (c.there.own.made, ap (λ (o : Own). o.made) answer.1)))

-- a CLCW that was read before a meeting, with or without other reads in between, is the CLCW at a place in the journal
-- that was returned
pub shown : (station : Roster) (place vcid : ℕ) (link : Link) (early mid late met : Watching) (word : ℕ) (before after : AtStation) (channel : History)
    → IsWordRead link early word mid → board.IsEarlier mid.seen late.seen → IsMetAt place vcid late before met after → IsClosedSince station place after channel → IsShownIn channel early link word
shown station place vcid link early mid late met word before after channel (later, of) on m since =
    let at = ap (λ (l : List AtLock). slice_get l place) m.others ∙ set-there before.desks place m.there m.next m.was in
    let seen = seen-in-closed station place after channel m.next at since in
    let look = m.meeting.look in
    let closed : Moment = record { head = seen.0; entries = channel.journal } in
    let begun : IsBeginning look.now closed = subst (λ (o : Own). IsBeginning o.seen closed) look.looked seen.2 in
    let whole = prefix-trans late.seen.journal look.now.entries channel.journal look.answer.1 begun.1 in
    let front = prefix-trans mid.seen.journal late.seen.journal channel.journal on.1 whole in
    let settings : mid.seen.settings ≡ channel.settings = sym on.0 ∙ (sym look.answer.0 ∙ (sym (ap (λ (h : Identity). h.settings) begun.0) ∙ seen.1)) in
    let journal : mid.seen.journal ≡ take (length mid.seen.journal) channel.journal = sym (ap (take (length mid.seen.journal)) (sym front.1) ∙ take_at mid.seen.journal front.0 (length mid.seen.journal) refl) in
    let n = length mid.seen.journal in (
      n,
      omega (arith, length-append early.seen.journal later.1.0, ap (length {A = Event}) later.1.1),
      omega (arith, length-append mid.seen.journal front.0, ap (length {A = Event}) front.1),
      of ∙ (λ i. clcw (settings i) (journal i) link),
    )
