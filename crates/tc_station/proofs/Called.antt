-- The effect of a call at one desk on the operator's list of desks.
use Rattle.tc_station.proofs.Names.{◌≡◌, ℕ, ◌+◌, ◌<◌, List, [], ◌∷◌, length, map, get_or, set, Option, Some, Result, Ok, Err, refl, sym, ap, ◌∙◌, subst, arith, ◌==◌, position, slice_get, slice_index, eqb-true, map-map, get_or-map, length-map, length-append, position-Some, slice_get_read, TableId, Event, Settings, Moment, Own, AtLock, count_of, IsCall, made, heads_of, locks_of, settings_of_desks, vcids_of, AtStation, HasGoneOnAtEach, IsOurs, IsPlace, KnowsTheSame, Roster, at_station, counts_of, tallied, tally, raised, raised_at, IsCallAt, IsCounted, IsErrAnd, MatchResult, OnOk, OnErr, map-set, set-get_or, looked}
use Rattle.tc_station.proofs.Counts.{raised-is}
use Rattle.tc_station.proofs.GoneOn.{longer, on-by-one}

-- if one desk is replaced by another with the same value of `f`, the values of `f` for all desks stay the same
pub same-set : {A : Type 0} (f : AtLock → A) (desks : List AtLock) (place : ℕ) (there next : AtLock) → there ≡ get_or desks place there → f next ≡ f there → map f (set desks place next) ≡ map f desks
same-set f desks place there next is same =
    map-set f desks place next
    ∙ (ap (λ x. set (map f desks) place x) (same ∙ ap f is)
    ∙ (sym (map-set f desks place (get_or desks place there)) ∙ ap (map f) (set-get_or desks place there)))

-- a call leaves the constant parts of the desk as they were
pub head-kept : {R F : Type 0} (e : Event) (ok : Moment → R → Type 0) (err : Moment → F → Type 0) (there next : AtLock) (r : Result R F) → IsCall e ok err there r next → next.own.seen.head ≡ there.own.seen.head
head-kept e ok err there next (Ok a) c = ap (λ (o : Own). o.seen.head) c.answer.1 ∙ c.later.0
head-kept e ok err there next (Err f) c = ap (λ (o : Own). o.seen.head) c.answer.1 ∙ c.later.0

-- an event that is made raises the count by one, unless the count has reached 2^64 - 1
count-made : (e : Event) (now : Moment) (own : Own) → count_of (made e now own) ≡ raised (count_of own)
count-made e now own =
    let one : length (made e now own).made ≡ length own.made + 1 = length-append own.made ((length now.entries, e) ∷ []) in
    omega (arith, one, raised-is (count_of own))

counts-made : (e : Event) (now : Moment) (vcids : List ℕ) (desks : List AtLock) (place vcid : ℕ) (there next : AtLock) → there ≡ get_or desks place there → place < length desks → position (λ v. v == vcid) vcids ≡ Some place
    → next.own ≡ made e now there.own → counts_of (set desks place next) ≡ raised_at (position (λ v. v == vcid) vcids) (counts_of desks)
counts-made e now vcids desks place vcid there next is inside at own =
    let count : AtLock → ℕ = λ d. count_of d.own in
    let here : slice_index (counts_of desks) place ≡ count_of there.own = get_or-map count desks place there 0 inside ∙ ap count (sym is) in
    map-set count desks place next
    ∙ (ap (λ x. set (counts_of desks) place x) (ap count_of own ∙ (count-made e now there.own ∙ ap raised (sym here)))
    ∙ ap (λ (o : Option ℕ). raised_at o (counts_of desks)) (sym at))

pub as-many : (vcids : List ℕ) (desks : List AtLock) → vcids_of (settings_of_desks desks) ≡ vcids → length desks ≡ length vcids
as-many vcids desks ids =
    sym (length-map desks (λ (o : AtLock). o.own.seen.head.settings)) ∙ (sym (length-map (settings_of_desks desks) (λ (s : Settings). s.vcid)) ∙ ap (length {A = ℕ}) ids)

-- if an id has a place among the ids, there is a desk at this place, and the channel of the desk has the id
pub id-of : (vcids : List ℕ) (desks : List AtLock) (place vcid : ℕ) (there : AtLock) → vcids_of (settings_of_desks desks) ≡ vcids → there ≡ get_or desks place there → position (λ v. v == vcid) vcids ≡ Some place
    → (place < length desks) × (there.own.seen.head.settings.vcid ≡ vcid)
id-of vcids desks place vcid there ids is at =
    let found = position-Some (λ v. v == vcid) vcids place 0 at in
    let inside : place < length desks = omega (arith, found.0, as-many vcids desks ids) in
    let id : AtLock → ℕ = λ d. d.own.seen.head.settings.vcid in
    let all : map id desks ≡ vcids = sym (map-map (λ (s : Settings). s.vcid) (λ (d : AtLock). d.own.seen.head.settings) desks) ∙ ids in
    let here : id there ≡ get_or vcids place 0 = ap id is ∙ (sym (get_or-map id desks place there 0 inside) ∙ ap (λ vs. get_or vs place 0) all) in
    (inside, here ∙ eqb-true (get_or vcids place 0) vcid found.1)

-- the view of a station with these owned desks
abbrev pub at_owned_desks : ℕ → List ℕ → ℕ → List AtLock → Roster
at_owned_desks scid vcids issued owned_desks = record { scid = scid; vcids = vcids; issued = issued; locks = locks_of owned_desks; heads = heads_of owned_desks }

-- ---- a call at the operator's desk at a place

module _ {R F : Type 0} (e : Event) (ok : Moment → R → Type 0) (err : Moment → F → Type 0) (station : Roster) (o : AtStation) (vcids : List ℕ) (desks : List AtLock) (place : ℕ) (there next : AtLock) (r : Result R F)
    (view : at_station vcids desks ≡ o) (ids : vcids_of (settings_of_desks desks) ≡ vcids) (ours : IsOurs station o) (is : there ≡ get_or desks place there) (c : IsCall e ok err there r next) where
  abbrev changed : AtStation
  changed = at_station vcids (set desks place next)

  pub ids-kept : vcids_of (settings_of_desks (set desks place next)) ≡ vcids
  ids-kept = ap vcids_of (same-set (λ (d : AtLock). d.own.seen.head.settings) desks place there next is (ap (λ h. h.settings) (head-kept e ok err there next r c))) ∙ ids

  refusal-kept : (q : Result R F) → IsCall e ok err there q next → OnErr q (tally changed ≡ tally (at_station vcids desks))
  refusal-kept (Ok a) d = tt
  refusal-kept (Err f) d = ap (λ cs. record { vcids = vcids; counts = cs }) (same-set (λ (x : AtLock). count_of x.own) desks place there next is (ap (λ (x : Own). count_of x) d.answer.1))

  pub refused : OnErr r (tally changed ≡ tally o)
  refused = subst (λ (x : AtStation). OnErr r (tally changed ≡ tally x)) view (refusal-kept r c)

  pub ours-kept : IsOurs station changed
  ours-kept = (ap (λ (x : AtStation). x.vcids) view ∙ ours.0, same-set (λ (d : AtLock). d.lock) desks place there next is c.lock ∙ (ap (λ (x : AtStation). locks_of x.desks) view ∙ ours.1))

  pub heads-kept : KnowsTheSame o changed
  heads-kept = same-set (λ (d : AtLock). d.own.seen.head) desks place there next is (head-kept e ok err there next r c) ∙ ap (λ (x : AtStation). heads_of x.desks) view

  pub gone-on : place < length desks → HasGoneOnAtEach o changed
  gone-on inside =
      let was = ap (λ (x : AtStation). slice_get x.desks place) (sym view) ∙ slice_get_read desks (length desks) place there refl inside is in
      on-by-one place o changed there next was (ap (λ (x : AtStation). set x.desks place next) view) (longer e ok err there next r c)

-- a call at the operator's desk at the place of a channel
module _ {R F : Type 0} (e : Event) (ok : Moment → R → Type 0) (err : Moment → F → Type 0) (station : Roster) (o : AtStation) (vcids : List ℕ) (desks : List AtLock) (place vcid : ℕ) (there next : AtLock) (r : Result R F)
    (view : at_station vcids desks ≡ o) (ids : vcids_of (settings_of_desks desks) ≡ vcids) (ours : IsOurs station o) (place_is : IsPlace station vcid place)
    (is : there ≡ get_or desks place there) (c : IsCall e ok err there r next) where
  abbrev changed_at : AtStation
  changed_at = at_station vcids (set desks place next)

  abbrev at : position (λ v. v == vcid) vcids ≡ Some place
  at = ap (λ vs. position (λ v. v == vcid) vs) (ap (λ (x : AtStation). x.vcids) view ∙ ours.0) ∙ place_is

  abbrev pub call-at : IsCallAt place vcid e ok err o r changed_at
  call-at = record {
    there = there;
    next = next;
    was = ap (λ (x : AtStation). slice_get x.desks place) (sym view) ∙ slice_get_read desks (length desks) place there refl (id-of vcids desks place vcid there ids is at).0 is;
    named = (id-of vcids desks place vcid there ids is at).1;
    call = c;
    others = ap (λ (x : AtStation). set x.desks place next) view;
    vcids = ap (λ (x : AtStation). x.vcids) view;
  }

  counted : (q : Result R F) → IsCall e ok err there q next → OnOk q (tally changed_at ≡ tallied vcid (tally (at_station vcids desks)))
  counted (Ok a) d = ap (λ cs. record { vcids = vcids; counts = cs }) (counts-made e d.now vcids desks place vcid there next is (id-of vcids desks place vcid there ids is at).0 at d.answer.1)
  counted (Err f) d = tt

  pub called : IsCounted station place vcid e ok err o r changed_at
  called = record {
    call = call-at;
    counted = subst (λ (x : AtStation). OnOk r (tally changed_at ≡ tallied vcid (tally x))) view (counted r c);
    refused = refused e ok err station o vcids desks place there next r view ids ours is c;
    ours = ours-kept e ok err station o vcids desks place there next r view ids ours is c;
    knows = heads-kept e ok err station o vcids desks place there next r view ids ours is c;
    later = gone-on e ok err station o vcids desks place there next r view ids ours is c (id-of vcids desks place vcid there ids is at).0;
  }

-- at each place, the desk of an operator of the station has the lock of the station's own desk
pub same-lock-at : (station : Roster) (o : AtStation) (vcids owned : List ℕ) (scid issued : ℕ) (desks owned_desks : List AtLock) (place : ℕ) (there owned_desk : AtLock)
    → at_station vcids desks ≡ o → IsOurs station o → at_owned_desks scid owned issued owned_desks ≡ station → place < length desks → place < length owned_desks
    → there ≡ get_or desks place there → owned_desk ≡ get_or owned_desks place owned_desk → there.lock ≡ owned_desk.lock
same-lock-at station o vcids owned scid issued desks owned_desks place there owned_desk view ours seen inside inside_owned is owned_desk_is =
    let lock : AtLock → TableId = λ d. d.lock in
    let mine = get_or-map lock desks place there owned_desk.lock inside in
    let theirs = get_or-map lock owned_desks place owned_desk owned_desk.lock inside_owned in
    let same : locks_of desks ≡ locks_of owned_desks = ap (λ (x : AtStation). locks_of x.desks) view ∙ (ours.1 ∙ sym (ap (λ (x : Roster). x.locks) seen)) in
    ap lock is ∙ (sym mine ∙ (ap (λ (l : List TableId). get_or l place owned_desk.lock) same ∙ (theirs ∙ ap lock (sym owned_desk_is))))

-- at the place of a channel, the desk of an operator of the station has the lock of the station's own desk
pub same-lock : (station : Roster) (o : AtStation) (vcids owned : List ℕ) (scid issued : ℕ) (desks owned_desks : List AtLock) (place vcid : ℕ) (there owned_desk : AtLock)
    → at_station vcids desks ≡ o → vcids_of (settings_of_desks desks) ≡ vcids → IsOurs station o → at_owned_desks scid owned issued owned_desks ≡ station → vcids_of (settings_of_desks owned_desks) ≡ owned → IsPlace station vcid place
    → there ≡ get_or desks place there → owned_desk ≡ get_or owned_desks place owned_desk → there.lock ≡ owned_desk.lock
same-lock station o vcids owned scid issued desks owned_desks place vcid there owned_desk view ids ours seen owned_desk_ids place_is is owned_desk_is =
    let at : position (λ v. v == vcid) vcids ≡ Some place = ap (λ vs. position (λ v. v == vcid) vs) (ap (λ (x : AtStation). x.vcids) view ∙ ours.0) ∙ place_is in
    let at_owned_desk : position (λ v. v == vcid) owned ≡ Some place = ap (λ (x : Roster). position (λ v. v == vcid) x.vcids) seen ∙ place_is in
    same-lock-at station o vcids owned scid issued desks owned_desks place there owned_desk view ours seen (id-of vcids desks place vcid there ids is at).0 (id-of owned owned_desks place vcid owned_desk owned_desk_ids owned_desk_is at_owned_desk).0 is owned_desk_is

-- if another answer holds at the moment of a call and fits the operator's account after the call, the call can be
-- stated with this answer
answered-so : {R F S G : Type 0} (place vcid : ℕ) (e : Event) (ok : Moment → R → Type 0) (err : Moment → F → Type 0) (ok2 : Moment → S → Type 0) (err2 : Moment → G → Type 0) (before after : AtStation) (r : Result R F) (r2 : Result S G)
    (c : IsCallAt place vcid e ok err before r after) → MatchResult r2 (λ a. ok2 c.call.now a × (c.next.own ≡ made e c.call.now c.there.own)) (λ f. err2 c.call.now f × (c.next.own ≡ looked c.call.now c.there.own))
    → IsCallAt place vcid e ok2 err2 before r2 after
answered-so place vcid e ok err ok2 err2 before after r r2 c answer = record {
  there = c.there;
  next = c.next;
  was = c.was;
  named = c.named;
  call = record { now = c.call.now; later = c.call.later; moment = c.call.moment; lock = c.call.lock; answer = answer };
  others = c.others;
  vcids = c.vcids;
}

-- if `ok2` holds for `b` at each moment at which `ok` holds for the call's answer `a`, the call can be stated with
-- `ok2` and `b`
pub ok-call : {R F S G : Type 0} (place vcid : ℕ) (e : Event) (ok : Moment → R → Type 0) (err : Moment → F → Type 0) (ok2 : Moment → S → Type 0) (err2 : Moment → G → Type 0) (before after : AtStation) (r : Result R F) (a : R) (b : S)
    → IsCallAt place vcid e ok err before r after → r ≡ Ok a → ((m : Moment) → ok m a → ok2 m b) → IsCallAt place vcid e ok2 err2 before (Ok b) after
ok-call place vcid e ok err ok2 err2 before after r a b c is weaker =
    let was : IsCallAt place vcid e ok err before (Ok a) after = subst (λ x. IsCallAt place vcid e ok err before x after) is c in
    answered-so place vcid e ok err ok2 err2 before after (Ok a) (Ok b) was (weaker was.call.now was.call.answer.0, was.call.answer.1)

pub err-call : {R F S G : Type 0} (place vcid : ℕ) (e : Event) (ok : Moment → R → Type 0) (err : Moment → F → Type 0) (ok2 : Moment → S → Type 0) (err2 : Moment → G → Type 0) (before after : AtStation) (r : Result R F) (f : F) (h : G)
    → IsCallAt place vcid e ok err before r after → r ≡ Err f → ((m : Moment) → err m f → err2 m h) → IsCallAt place vcid e ok2 err2 before (Err h) after
err-call place vcid e ok err ok2 err2 before after r f h c is weaker =
    let was : IsCallAt place vcid e ok err before (Err f) after = subst (λ x. IsCallAt place vcid e ok err before x after) is c in
    answered-so place vcid e ok err ok2 err2 before after (Err f) (Err h) was (weaker was.call.now was.call.answer.0, was.call.answer.1)

-- a refused call at a desk can be stated with the station's fault in place of the desk's fault
pub refused-call : {R F S G : Type 0} (place vcid : ℕ) (e : Event) (ok : Moment → R → Type 0) (err : Moment → F → Type 0) (ok2 : Moment → S → Type 0) (err2 : Moment → G → Type 0) (before after : AtStation) (r : Result R F) (f : F) (words : F → G)
    (r2 : Result S G) → IsCallAt place vcid e ok err before r after → r ≡ Err f → IsErrAnd r2 (λ h. h ≡ words f) → ((m : Moment) (h : G) → h ≡ words f → err m f → err2 m h) → IsCallAt place vcid e ok2 err2 before r2 after
refused-call place vcid e ok err ok2 err2 before after r f words (Ok b) c is said weaker = absurd said
refused-call place vcid e ok err ok2 err2 before after r f words (Err h) c is said weaker = err-call place vcid e ok err ok2 err2 before after r f h c is (λ m p. weaker m h said p)
