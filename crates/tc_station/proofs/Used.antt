-- The event of an answered call is in the journal that the station's close returns.
use Rattle.tc_station.proofs.Names.{◌≡◌, ◌<◌, ℕ, Bool, List, length, get_or, take, Result, Ok, Err, Some, sym, ap, subst, ◌∙◌, arith, length-map, slice_get, slice_get-get_or, slice_get_within, Event, History, Settings, Moment, TableId, AtLock, locks_of, Roster, AtStation, IsPlace, IsBringCall, IsReplied, IsNotBrought, IsOurs, inl, inr, IsCallAt, IsCallOn, IsMetAt, Watching, slice_set, Frame, frame_reply, Link, no_history, IsLocated, HasGoneOnAtEach, HasSeenNoMore, accounts_of, column, operator_lists_of, IsGivenOut, IsAnsweredAmong, IsWordRead, IsShownIn, AreClosedTogether}
use Rattle.logged_lock.specs.Log.{IsMergeOf}
use Rattle.tc_status.specs.Board as board
use Rattle.tc_station.specs.Call.{IsRepliedWatched, IsNotBroughtWatched}
use Rattle.tc_station.specs.Through.{IsBroughtAmong, StandsIfMet}
use Rattle.tc_station.specs.declared.faults.BringFault.{BringFault}
use Rattle.tc_station.specs.declared.station.Brought.{Brought}
use Rattle.tc_station.proofs.ClosedSince.{IsClosedSince, Stands, answered, owned_desk-there, set-there, shown}

abbrev is-ok : {R F : Type 0} → Result R F → Type 0
is-ok (Ok r) = Unit {0}
is-ok (Err f) = ⊥

-- An operator makes a call at the desk of a channel, and then any further calls. If the station is closed with this
-- operator among others, the channel is returned.
given-out : (station : Roster) (place : ℕ) (before after last : AtStation) (there next : AtLock) (operators : List AtStation) (closed : List History) (number : ℕ)
    → IsOurs station before → slice_get before.desks place ≡ Some there → after.desks ≡ slice_set before.desks place next
    → HasGoneOnAtEach after last → slice_get operators number ≡ Some last → AreClosedTogether station operators closed
    → (channel : History) × (slice_get closed place ≡ Some channel) × IsClosedSince station place after channel
given-out station place before after last there next operators closed number ours was others on among together =
    let here : place < length before.desks = slice_get_within before.desks place there was in
    let owned_desks = together.0 in
    let many = together.2.as_many in
    let mine = length-map before.desks (λ (o : AtLock). o.lock) in
    let theirs = length-map owned_desks (λ (o : AtLock). o.lock) in
    let same : length (locks_of before.desks) ≡ length (locks_of owned_desks) = ap (length {A = TableId}) (ours.1 ∙ sym together.1.0) in
    let inside : place < length closed = omega (arith, here, many, mine, theirs, same) in
    let channel : History = get_or closed place no_history in
    let out : slice_get closed place ≡ Some channel = slice_get-get_or closed place no_history inside in
    let at : slice_get after.desks place ≡ Some next = ap (λ (l : List AtLock). slice_get l place) others ∙ set-there before.desks place there next was in
    (channel, out, record { operators = operators; closed = closed; together = together; out = out; number = number; last = last; among = among; on = on.each place next at })

-- if a call at a desk was answered, its event is in the journal that the close returns
called-among : {R F : Type 0} → Stands → (station : Roster) (place vcid : ℕ) (e : Event) (ok : Moment → R → Type 0) (err : Moment → F → Type 0) (before after last : AtStation) (r : R) (operators : List AtStation) (closed : List History) (number : ℕ)
    (Answers : Settings → List Event → Type 0) → ((m : Moment) → ok m r → Answers m.head.settings m.entries) → IsOurs station before → IsPlace station vcid place → IsCallAt place vcid e ok err before (Ok r) after
    → HasGoneOnAtEach after last → slice_get operators number ≡ Some last → AreClosedTogether station operators closed → IsAnsweredAmong station vcid after closed e Answers
called-among stands station place vcid e ok err before after last r operators closed number Answers says ours at call on among together =
    let out = given-out station place before after last call.there call.next operators closed number ours call.was call.others on among together in
    let channel = out.0 in
    let is = answered stands station place vcid e ok err before after r channel call out.2 in
    let there : Moment = record { head = is.0; entries = take is.1 channel.journal } in
    (place, channel, (at, out.1), (is.1, is.3, subst (λ (s : Settings). Answers s (take is.1 channel.journal)) is.2 (says there is.4), is.5))

-- if a call that names its channel was answered, its event is in the journal that the close returns
pub call-among : {R F : Type 0} → Stands → (station : Roster) (vcid : ℕ) (e : Event) (ok : Moment → R → Type 0) (err : Moment → F → Type 0) (unknown : F) (before after last : AtStation) (r : R) (operators : List AtStation) (closed : List History) (number : ℕ)
    (Answers : Settings → List Event → Type 0) → ((m : Moment) → ok m r → Answers m.head.settings m.entries) → IsOurs station before → IsCallOn station vcid e ok err unknown before (Ok r) after
    → HasGoneOnAtEach after last → slice_get operators number ≡ Some last → AreClosedTogether station operators closed → IsAnsweredAmong station vcid after closed e Answers
call-among stands station vcid e ok err unknown before after last r operators closed number Answers says ours (inl (place, at, call)) on among together =
    called-among stands station place vcid e ok err before after last r operators closed number Answers says ours at call on among together
call-among {R = R} {F = F} stands station vcid e ok err unknown before after last r operators closed number Answers says ours (inr (none, wrong, same)) on among together = absurd (subst (is-ok {R = R} {F = F}) wrong tt)

-- if octets were brought to a channel, their frame is in the journal that the close returns
brought-among : {R : Type 0} → Stands → (station : Roster) (octets : List ℕ) (ok : ℕ → List ℕ → Moment → R → Type 0) (err : List ℕ → Moment → BringFault → Type 0) (said : R → Brought)
    (before after last : AtStation) (answer : R) (operators : List AtStation) (closed : List History) (number : ℕ)
    → ((vcid : ℕ) (frame : List ℕ) (m : Moment) → ok vcid frame m answer → ((said answer).vcid ≡ vcid) × ((said answer).reply ≡ frame_reply m.head.settings m.entries frame))
    → IsOurs station before → IsBringCall station octets ok err before (Ok answer) after
    → HasGoneOnAtEach after last → slice_get operators number ≡ Some last → AreClosedTogether station operators closed → IsBroughtAmong station octets (said answer) after closed
brought-among stands station octets ok err said before after last answer operators closed number says ours (inl (place, vcid, frame, placed, call)) on among together =
    let named : vcid ≡ (said answer).vcid = sym (says vcid frame call.call.now call.call.answer.0).0 in
    let answers : Settings → List Event → Type 0 = λ s journal. (said answer).reply ≡ frame_reply s journal frame in
    let is = called-among stands station place vcid (Frame frame) (ok vcid frame) (err frame) before after last answer operators closed number answers (λ m p. (says vcid frame m p).1) ours placed.1 call on among together in
    (frame, subst (λ (v : ℕ). IsLocated station octets v frame) named placed.0, subst (λ (v : ℕ). IsAnsweredAmong station v after closed (Frame frame) answers) named is)
brought-among {R = R} stands station octets ok err said before after last answer operators closed number says ours (inr (fault, is, wrong, same)) on among together = absurd (subst (is-ok {R = R} {F = BringFault}) wrong tt)

pub bring-among : Stands → (station : Roster) (octets : List ℕ) (grows : Bool) (before after last : AtStation) (brought : Brought) (operators : List AtStation) (closed : List History) (number : ℕ)
    → IsOurs station before → IsBringCall station octets IsReplied (IsNotBrought grows) before (Ok brought) after
    → HasGoneOnAtEach after last → slice_get operators number ≡ Some last → AreClosedTogether station operators closed → IsBroughtAmong station octets brought after closed
bring-among stands station octets grows before after last brought operators closed number =
    brought-among stands station octets IsReplied (IsNotBrought grows) (λ (b : Brought). b) before after last brought operators closed number (λ vcid frame m p. p)

pub watched-among : Stands → (station : Roster) (octets : List ℕ) (before after last : AtStation) (answer : Brought × Watching) (operators : List AtStation) (closed : List History) (number : ℕ)
    → IsOurs station before → IsBringCall station octets IsRepliedWatched IsNotBroughtWatched before (Ok answer) after
    → HasGoneOnAtEach after last → slice_get operators number ≡ Some last → AreClosedTogether station operators closed → IsBroughtAmong station octets answer.0 after closed
watched-among stands station octets before after last answer operators closed number =
    brought-among stands station octets IsRepliedWatched IsNotBroughtWatched (λ (a : Brought × Watching). a.0) before after last answer operators closed number (λ vcid frame m p. (p.0, p.1.0))

-- the event of an operation that `operate_met` answered is in the journal that the close returns
pub met-among : {R F : Type 0} → Stands → (e : Event) (ok : Moment → R → Type 0) (err : Moment → F → Type 0) (Answers : R → Settings → List Event → Type 0)
    → ((m : Moment) (r : R) → ok m r → Answers r m.head.settings m.entries) → StandsIfMet e ok err Answers
met-among stands e ok err Answers says station place vcid early late before after last answer operators closed number ours at met =
    called-among stands station place vcid e (λ m r. ok m r × HasSeenNoMore early m) (λ m f. err m f × HasSeenNoMore early m) before after last answer operators closed number
    (λ s journal. Answers answer s journal × board.IsEarlier early.seen (record { settings = s; journal = journal })) (λ m p. (says m answer p.0, p.1)) ours at met.at

-- each journal that the close returns is a merge of the events that the operators made at the channel's desk
pub merge-among : (station : Roster) (operators : List AtStation) (closed : List History) (place : ℕ) (channel : History) → AreClosedTogether station operators closed → slice_get closed place ≡ Some channel
    → IsMergeOf channel.journal (accounts_of (column place (operator_lists_of operators)))
merge-among station operators closed place channel together out =
    let all = together.2 in
    let inside = slice_get_within closed place channel out in
    let many = all.as_many in
    let owned_desk = owned_desk-there together.0 place (omega (arith, inside, many)) in
    let one = all.each place owned_desk.0 channel owned_desk.1 out in
    one.merge

-- a CLCW that was read before a meeting is the CLCW at a place in a journal that the close returns
pub word-among : (station : Roster) (vcid : ℕ) (link : Link) (early mid late met : Watching) (word : ℕ) (before after last : AtStation) (operators : List AtStation) (closed : List History) (number : ℕ)
    → IsOurs station before → IsWordRead link early word mid → board.IsEarlier mid.seen late.seen → ((place : ℕ) × IsPlace station vcid place × IsMetAt place vcid late before met after)
    → HasGoneOnAtEach after last → slice_get operators number ≡ Some last → AreClosedTogether station operators closed
    → (place : ℕ) × (channel : History) × IsGivenOut station vcid closed place channel × IsShownIn channel early link word
word-among station vcid link early mid late met word before after last operators closed number ours read later (place, at, m) on among together =
    let out = given-out station place before after last m.there m.next operators closed number ours m.was m.others on among together in
    (place, out.0, (at, out.1), shown station place vcid link early mid late met word before after out.0 read later m out.2)
