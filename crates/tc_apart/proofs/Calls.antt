-- Calls of a thread that make no event of its channel.
use Rattle.tc_apart.proofs.Names.{AtLock, AtStation, Bringer, Err, Event, HasMadeNone, HasMet, History, IsEarlier, IsMetAt, IsMetCallAt, List, Moment, Own, Some, ap, history_of, looked, refl, set-there, slice_get, subst, sym, ℕ, ◌∙◌, ◌≡◌}

-- the thread's desk was looked at, and its watcher met the channel
looked-at : (place : ℕ) (early late : Bringer) (there next : AtLock) (now : Moment) → slice_get early.operator.desks place ≡ Some there → slice_get late.operator.desks place ≡ Some next
    → next.own ≡ looked now there.own → IsEarlier early.watcher.seen (history_of now) → HasMet next.own.seen late.watcher → HasMadeNone place early late
looked-at place early late there next now was is after seen met = record {
  before = there;
  after = next;
  was = was;
  is = is;
  same = ap (λ (o : Own). o.made) after;
  later = subst (λ (h : History). IsEarlier early.watcher.seen h) (sym (met.1 ∙ ap (λ (o : Own). history_of o.seen) after)) seen;
}

pub read-so : (place : ℕ) (early late : Bringer) (desk : AtLock) → slice_get early.operator.desks place ≡ Some desk → late.operator ≡ early.operator
    → IsEarlier early.watcher.seen late.watcher.seen → HasMadeNone place early late
read-so place early late desk at same later = record { before = desk; after = desk; was = at; is = ap (λ (o : AtStation). slice_get o.desks place) same ∙ at; same = refl; later = later }

pub meeting-so : (place vcid : ℕ) (early late : Bringer) → IsMetAt place vcid early.watcher early.operator late.watcher late.operator → HasMadeNone place early late
meeting-so place vcid early late m =
    let look = m.meeting.look in
    looked-at place early late m.there m.next look.now m.was (ap (λ (l : List AtLock). slice_get l place) m.others ∙ set-there early.operator.desks place m.there m.next m.was)
    look.looked look.answer m.meeting.met

pub refused-so : {R F : Type 0} (place vcid : ℕ) (e : Event) (ok : Moment → R → Type 0) (err : Moment → F → Type 0) (early late : Bringer) (f : F)
    → IsMetCallAt place vcid e ok err early.watcher early.operator (Err f) late.watcher late.operator → HasMadeNone place early late
refused-so place vcid e ok err early late f m =
    let c = m.at in
    looked-at place early late c.there c.next c.call.now c.was (ap (λ (l : List AtLock). slice_get l place) c.others ∙ set-there early.operator.desks place c.there c.next c.was)
    c.call.answer.1 c.call.answer.0.1 m.met
