-- The effects of a call with meetings, and of a meeting alone, on the operator's list of desks and on the watcher.
use Rattle.tc_station.proofs.Names.{◌≡◌, ◌<◌, ℕ, List, length, get_or, Option, None, Some, Err, sym, ap, ◌∙◌, arith, ◌==◌, position, slice_get, get_or-map, get_or_from_slice_get, length-map, none-some, same_Some, slice_get_within, History, AtLock, Identity, HasMet, HasSeenNoMore, IsCall, IsMeeting, heads_of, Roster, IsPlace, Watching, Release, Result, Ok, subst, Moment, AtStation, KnowsDesks, IsCallAt, Frame}
use Rattle.std.proofs.lemmas.Option.{slice_get-map}
use Rattle.std.specs.Prelude.{option_map}
use Rattle.tc_queues.specs.declared.reply.FrameReply.{FrameReply}
use Rattle.tc_desk.specs.Call.{IsFramedWatched}
use Rattle.tc_station.specs.Moments.{IsWatcherAt, IsWatcherOf}

-- a meeting has the effect of a refused call on the operator's desk
pub as-call : (early : Watching) (there : AtLock) (late : Watching) (next : AtLock) → IsMeeting early there late next
    → IsCall {R = Unit {0}} {F = Unit {0}} Release (λ m done. ⊥) (λ m done. HasSeenNoMore early m) there (Err tt) next
as-call early there late next m =
    record { now = m.look.now; later = m.look.later; moment = m.look.moment; lock = m.look.lock; answer = (m.look.answer, m.look.looked) }

-- if these desks have the heads of the station's desks, one of them is at the watcher's place
pub desk-there : (station : Roster) (desks : List AtLock) (place : ℕ) (w : Watching) → heads_of desks ≡ station.heads → IsWatcherAt station place w → place < length desks
desk-there station desks place w heads (head, at, board, settings) =
    let within = slice_get_within station.heads place head at in
    omega (arith, within, ap (length {A = Identity}) heads, length-map desks (λ (d : AtLock). d.own.seen.head))

-- the desk at the place of a watcher has the head that the station has at this place, and the board that the watcher
-- reads
pub head-at : (station : Roster) (desks : List AtLock) (place : ℕ) (there : AtLock) (w : Watching) → heads_of desks ≡ station.heads → there ≡ get_or desks place there → IsWatcherAt station place w
    → (slice_get station.heads place ≡ Some there.own.seen.head) × (w.board ≡ there.own.seen.head.board)
head-at station desks place there w heads is (head, at, board, settings) =
    let hd : AtLock → Identity = λ d. d.own.seen.head in
    let mine : get_or (heads_of desks) place head ≡ there.own.seen.head =
    get_or-map hd desks place there head (desk-there station desks place w heads (head, at, board, settings)) ∙ ap hd (sym is) in
    let one : head ≡ there.own.seen.head = sym (get_or_from_slice_get station.heads place head head at) ∙ (ap (λ (l : List Identity). get_or l place head) (sym heads) ∙ mine) in
    (at ∙ ap (λ (h : Identity). Some h) one, board ∙ ap (λ (h : Identity). h.board) one)

-- a watcher of a channel is a watcher at the channel's place
pub at-place : (station : Roster) (place vcid : ℕ) (w : Watching) → IsPlace station vcid place → IsWatcherOf station vcid w → IsWatcherAt station place w
at-place station place vcid w at (head, (p, here, of), board, settings) =
    let same : p ≡ place = same_Some p place (sym here ∙ at) in
    (head, ap (λ (k : ℕ). slice_get station.heads k) (sym same) ∙ of, board, settings)

-- a watcher that has met the desk is still a watcher at the desk's place
pub watcher-kept : (station : Roster) (place : ℕ) (there next : AtLock) (late : Watching) → slice_get station.heads place ≡ Some there.own.seen.head → next.own.seen.head ≡ there.own.seen.head → HasMet next.own.seen late
    → IsWatcherAt station place late
watcher-kept station place there next late known head met =
    (there.own.seen.head, known, met.0 ∙ ap (λ (h : Identity). h.board) head, ap (λ (h : History). h.settings) met.1 ∙ ap (λ (h : Identity). h.settings) head)

-- if the operator that brought a frame knows its desks, a watcher that saw the channel process the frame belongs to the
-- channel
pub watcher-there : {F : Type 0} (station : Roster) (place vcid : ℕ) (frame : List ℕ) (err : Moment → F → Type 0) (before after : AtStation) (r : Result (FrameReply × Watching) F) (answer : FrameReply × Watching)
    → IsPlace station vcid place → KnowsDesks station before → IsCallAt place vcid (Frame frame) (IsFramedWatched frame) err before r after → r ≡ Ok answer → IsWatcherOf station vcid answer.1
watcher-there station place vcid frame err before after r answer at knows c is =
    let call = subst (λ x. IsCallAt place vcid (Frame frame) (IsFramedWatched frame) err before x after) is c in
    let saw = call.call.answer.0.1 in
    let head : call.call.now.head ≡ call.there.own.seen.head = call.call.later.0 in
    let known : slice_get station.heads place ≡ Some call.there.own.seen.head =
    ap (λ (l : List Identity). slice_get l place) (sym knows) ∙ (slice_get-map (λ (d : AtLock). d.own.seen.head) before.desks place ∙ ap (option_map (λ (d : AtLock). d.own.seen.head)) call.was) in
    (call.there.own.seen.head, (place, at, known), saw.0 ∙ ap (λ (h : Identity). h.board) head, ap (λ (h : History). h.settings) saw.1 ∙ ap (λ (h : Identity). h.settings) head)

-- the station has the channel of the watcher
pub channel-there : (station : Roster) (vcids : List ℕ) (vcid : ℕ) (w : Watching) (place : Option ℕ) → vcids ≡ station.vcids → IsWatcherOf station vcid w → place ≡ position (λ v. v == vcid) vcids → place ≡ None → ⊥
channel-there station vcids vcid w place whole (head, (p, here, of), board, settings) is none =
    none-some p (sym none ∙ (is ∙ (ap (λ (l : List ℕ). position (λ v. v == vcid) l) whole ∙ here)))
