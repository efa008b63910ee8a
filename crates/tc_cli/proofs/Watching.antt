-- The watchers of a script's channels. Each watcher belongs to the desk at its own place.
use Rattle.std.proofs.Common.{◌≡◌, ◌<◌, ◌+◌, ℕ, List, [], ◌∷◌, ◌++◌, Some, length, map, get_or, inl, inr, refl, sym, ap, ◌∙◌, subst, arith, ◌==◌, slice_get, slice_set, add-one}
use Rattle.tc_cli.proofs.Names.{AtStation, HasMetAt, HaveMet, Identity, IsEarlier, IsPlace, IsWordAnswer, Staffed, Roster, Settings, Watching, clcw, eqb_tells, length-map, length-set, no_flag, position-Some, same_Some, slice_get-get_or}
use Rattle.std.proofs.lemmas.Option.{slice_get_read}
use Rattle.tc_channel.specs.Run.{IsLawful}
use Rattle.tc_station.proofs.Meetings.{at-place}
use Rattle.tc_station.specs.Call.{IsMetAt}
use Rattle.tc_station.specs.Moments.{IsWatcherAt, IsWatcherOf}
use Rattle.tc_cli.specs.Watched.{AreWatchersOf, AreWatching, IsOrdered}
use Rattle.tc_rack.specs.declared.answer.Answer.TheVariants.{Clcw}
use Rattle.tc_cli.proofs.Joined.{place-of}
use Rattle.tc_cli.proofs.Lists.{push-cases, set-at, set-else}

pub as-many : (station : Roster) → IsOrdered station → length station.heads ≡ length station.vcids
as-many station ordered =
    let settings : Identity → Settings = λ h. h.settings in
    sym (length-map station.heads settings)
    ∙ (sym (length-map (map settings station.heads) (λ (s : Settings). s.vcid)) ∙ ap (length {A = ℕ}) ordered.named)

-- if a watcher is replaced by another watcher of the same desk, there is still one watcher for each channel of the station
pub watcher-set : (station : Roster) (watchers : List Watching) (place : ℕ) (early late : Watching) → AreWatchersOf station watchers → slice_get watchers place ≡ Some early → IsWatcherAt station place late
    → AreWatchersOf station (slice_set watchers place late)
watcher-set station watchers place early late all was one = (
  length-set watchers place late ∙ all.0,
  λ k w here. elim (eqb_tells k place) [
    | inl same ↦
        let w-is = set-at watchers (slice_set watchers place late) place k early late w refl was same.1 here in
        subst (λ (x : ℕ × Watching). IsWatcherAt station x.0 x.1) (λ i. (sym same.1 i, w-is i)) one
    | inr apart ↦ all.1 k w (set-else watchers (slice_set watchers place late) place k late w refl apart.1 here)
  ],
)

-- if a watcher of the next channel is appended, each watcher still belongs to the desk at its own place
pub one-watcher-more : (station : Roster) (vcids : List ℕ) (items next : List Watching) (w : Watching) (i vcid : ℕ) → IsOrdered station → vcids ≡ station.vcids → next ≡ items ++ w ∷ [] → length items ≡ i → i < length vcids
    → vcid ≡ get_or vcids i vcid → AreWatching station items → IsWatcherOf station vcid w → AreWatching station next
one-watcher-more station vcids items next w i vcid ordered whole is many inside at all of = λ k x here.
    elim (push-cases items w x k (ap (λ (l : List Watching). slice_get l k) (sym is) ∙ here)) [
      | inl h ↦ all k x h
      | inr h ↦
          let id : slice_get station.vcids i ≡ Some vcid =
          ap (λ (l : List ℕ). slice_get l i) (sym whole) ∙ (slice_get-get_or vcids i vcid inside ∙ ap (λ (v : ℕ). Some v) (sym at)) in
          let one = at-place station i vcid w (place-of station i vcid ordered.distinct id) of in
          let there = h.0 ∙ many in
          subst (λ (y : ℕ × Watching). IsWatcherAt station y.0 y.1) (λ i. (sym there i, h.1 i)) one
    ]

-- ---- the watcher at a place meets its desk

-- the watcher at a place belongs to the channel at that place
pub meets-at : (station : Roster) (items : List Watching) (vcids : List ℕ) (place vcid : ℕ) (w : Watching) → IsOrdered station → vcids ≡ station.vcids → AreWatchersOf station items → place < length items
    → vcid ≡ get_or vcids place vcid → w ≡ get_or items place w → IsPlace station vcid place × (slice_get items place ≡ Some w) × IsWatcherOf station vcid w
meets-at station items vcids place vcid w ordered whole all inside id is =
    let within : place < length vcids = omega (arith, inside, all.0, as-many station ordered, ap (length {A = ℕ}) whole) in
    let at : slice_get station.vcids place ≡ Some vcid =
    ap (λ (l : List ℕ). slice_get l place) (sym whole) ∙ (slice_get-get_or vcids place vcid within ∙ ap (λ (v : ℕ). Some v) (sym id)) in
    let here = place-of station place vcid ordered.distinct at in
    let seat = slice_get_read items (length items) place w refl inside is in
    let one = all.1 place w seat in
    (here, seat, (one.0, (place, here, one.1), one.2, one.3))

-- there is a watcher at the place of each channel
pub watched-place : (station : Roster) (items : List Watching) (place vcid : ℕ) → IsOrdered station → AreWatchersOf station items → IsPlace station vcid place → place < length items
watched-place station items place vcid ordered all here =
    let found = position-Some (λ v. v == vcid) station.vcids place 0 here in
    let within = found.0 in
    omega (arith, within, all.0, as-many station ordered)

-- the watcher at the place of a channel belongs to the desk at that place
pub meets-of : (station : Roster) (items : List Watching) (place vcid : ℕ) (w : Watching) → IsOrdered station → AreWatchersOf station items → IsPlace station vcid place → w ≡ get_or items place w
    → (slice_get items place ≡ Some w) × IsWatcherAt station place w
meets-of station items place vcid w ordered all here is =
    let seat = slice_get_read items (length items) place w refl (watched-place station items place vcid ordered all here) is in
    (seat, all.1 place w seat)

pub has-met : (station : Roster) (operator next : AtStation) (items : List Watching) (place vcid : ℕ) (early late : Watching) → IsPlace station vcid place → slice_get items place ≡ Some early
    → (p : ℕ) × IsPlace station vcid p × IsMetAt p vcid early operator late next
    → HasMetAt place (record { station = station; operator = operator; watchers = items }) (record { station = station; operator = next; watchers = slice_set items place late })
has-met station operator next items place vcid early late here seat (p, there, met) =
    let same : p ≡ place = same_Some p place (sym there ∙ here) in
    record { vcid = vcid; early = early; late = late; watched = seat; meeting = subst (λ (k : ℕ). IsMetAt k vcid early operator late next) same met; watchers = refl; station = refl }

-- a watcher that has read on still belongs to its desk
pub read-of : (station : Roster) (place : ℕ) (early late : Watching) → IsWatcherAt station place early → late.board ≡ early.board → IsEarlier early.seen late.seen → IsWatcherAt station place late
read-of station place early late (head, at, board, settings) same later = (head, at, same ∙ board, later.0 ∙ settings)

-- if a watcher reads the CLCW of its channel, this CLCW answers a line that requests it
pub word-answered : (station : Roster) (operator : AtStation) (items : List Watching) (place vcid word : ℕ) (early late : Watching) → IsPlace station vcid place → slice_get items place ≡ Some early
    → IsWatcherAt station place early → IsEarlier early.seen late.seen → IsLawful late.seen.settings late.seen.journal → word ≡ clcw late.seen.settings late.seen.journal no_flag
    → IsWordAnswer vcid (record { station = station; operator = operator; watchers = items }) (Clcw vcid word) (record { station = station; operator = operator; watchers = slice_set items place late })
word-answered station operator items place vcid word early late here seat (head, at, board, settings) later lawful of =
    inl (
      place,
      here,
      record { head = head; early = early; late = late; desk = (place, here, at); watched = seat; later = later; settings = later.0 ∙ settings; lawful = lawful; word = ap (λ (w : ℕ). Clcw vcid w) of; change = refl },
    )

-- if the first `n` watchers have met their desks, and then the next one meets its desk, the first `n + 1` have met
-- theirs
pub one-more-met : (n : ℕ) (m mid met : Staffed) → HaveMet n m mid → HasMetAt n mid met → HaveMet (n + 1) m met
one-more-met n m mid met have at = rw add-one (mid, have, at)
