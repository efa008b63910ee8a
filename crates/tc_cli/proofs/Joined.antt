-- The channels of a closed station whose workers carried out the lists at the same time. Carrying out the lines in
-- order leads to the same channels, and to the same report.
use Rattle.std.proofs.Common.{◌≡◌, ◌<◌, ℕ, zero, suc, ◌+◌, List, [], ◌∷◌, Bool, true, false, Option, None, Some, All, map, length, get_or, cond, inl, inr, refl, sym, ap, ◌∙◌, subst, arith, eq-eqb, ne_eqb, not, ◌≢◌, ◌==◌, AllPairs, IsPermutation, nat_lt, slice_get, slice_index_or}
use Rattle.tc_cli.proofs.Names.{Answer, AreAnswers, AreClosedTogether, AreWorkedChannels, AtLock, AtStation, Event, HasMadeNothing, HasSeenItsOwn, History, Identity, IsBeginning, IsClosed, IsPerformed, IsPlace, IsReportOf, IsScriptReport, IsWorkedOut, KnowsDesks, Linked, Parted, Progress, Racked, Roster, Settings, WorkList, column, operator_lists_of, get_or_from_slice_get, heads_of, histories, length-map, lower, made_by, nobody, none-some, rack_for, report_text, same_Some, settings_in, slice_get_within, vcid_of, cases_lt}
use mathlib.Core.Option.{some}
use lib.ListN.{get_elem?}
use Rattle.std.specs.List.{AllByRecursion, position_or_len}
use Rattle.std.proofs.lemmas.Bool.{lt-ltb}
use Rattle.std.proofs.lemmas.List.{get_or_past}
use Rattle.std.proofs.lemmas.Option.{slice_get_cases, slice_get_past}
use Rattle.tc_desk.specs.Log.{accounts_of}
use Rattle.tc_station.specs.Tried.{AreMade, IsListMade}
use Rattle.tc_station.specs.Work.{Shift, IsShift, AreWorked, lowest}
use Rattle.tc_cli.proofs.Happened.{HasSeen, IsWorkedAt, WorkLaws, desk_at, list-worked}
use Rattle.tc_cli.proofs.Beginnings.{no-event}
use Rattle.tc_cli.proofs.Lists.{element, mapped-at, same-mapped, was-there}
use Rattle.tc_cli.proofs.Planned.{IsPlanned, all-planned, found-planned, matched-phase}

-- ---- places

first-place : (vs : List ℕ) (k v : ℕ) → slice_get vs k ≡ Some v → ((j : ℕ) → j < k → get_or vs j v ≢ v) → position_or_len (λ x. x == v) vs ≡ k
first-place [] k v at apart = absurd (none-some v at)
first-place (x ∷ vs) zero v at apart = ap (λ (b : Bool). cond (not b) (1 + position_or_len (λ y. y == v) vs) 0) (eq-eqb x v (same_Some x v at))
first-place (x ∷ vs) (suc k) v at apart =
    let e : (x == v) ≡ false = ne_eqb x v (apart 0 (omega arith)) in
    ap (λ (b : Bool). cond (not b) (1 + position_or_len (λ y. y == v) vs) 0) e
    ∙ omega (arith, first-place vs k v at (λ j lt. apart (suc j) (omega (arith, lt))))

-- if all ids differ, the place of an id is the one at which it occurs
pub place-of : (station : Roster) (k v : ℕ) → AllPairs (λ (a b : ℕ). a ≢ b) station.vcids → slice_get station.vcids k ≡ Some v → IsPlace station v k
place-of station k v distinct at =
    let vs = station.vcids in
    let inside = slice_get_within vs k v at in
    let here : get_or vs k v ≡ v = get_or_from_slice_get vs k v v at in
    let first = first-place vs k v at (λ j lt same. distinct j k v lt inside (same ∙ sym here)) in
    let within : nat_lt (position_or_len (λ x. x == v) vs) (length vs) ≡ true = lt-ltb _ _ (omega (arith, first, inside)) in
    ap (λ (b : Bool). cond b (Some (position_or_len (λ x. x == v) vs)) None) within ∙ ap (λ (n : ℕ). Some n) first

-- ---- the events that each worker has made

first-none : (a b : Option ℕ) → lower a b ≡ None → (a ≡ None) × (b ≡ None)
first-none a b is = grind arith

all-made : (station : Roster) (shifts : List Shift) → AllByRecursion (IsShift station) shifts → lowest shifts ≡ None → (k : ℕ) (x : Shift) → slice_get shifts k ≡ Some x
    → AreMade station x.list.vcid x.list.jobs x.before x.after
all-made station [] each none k x at = absurd (none-some x at)
all-made station (s ∷ shifts) each none zero x at =
    let both = first-none s.refused (lowest shifts) none in
    let made : IsListMade station s.list None s.before s.after = subst (λ (r : Option ℕ). IsListMade station s.list r s.before s.after) both.0 each.0.made in
    subst (λ (y : Shift). AreMade station y.list.vcid y.list.jobs y.before y.after) (same_Some s x at) made
all-made station (s ∷ shifts) each none (suc k) x at = all-made station shifts each.1 (first-none s.refused (lowest shifts) none).1 k x at

-- the k-th account at a desk has made the events that the k-th operator has made at this desk
maker-at : (ops : List AtStation) (place k : ℕ) (o : AtStation) → slice_get ops k ≡ Some o → made_by (accounts_of (column place (operator_lists_of ops))) k ≡ (desk_at place o).own.made
maker-at [] place k o at = absurd (none-some o at)
maker-at (p ∷ ops) place zero o at = ap (λ (x : AtStation). (desk_at place x).own.made) (same_Some p o at)
maker-at (p ∷ ops) place (suc k) o at = maker-at ops place k o at

maker-past : (ops : List AtStation) (place k : ℕ) → slice_get ops k ≡ None → made_by (accounts_of (column place (operator_lists_of ops))) k ≡ []
maker-past [] place k at = refl
maker-past (p ∷ ops) place zero at = absurd cc
maker-past (p ∷ ops) place (suc k) at = maker-past ops place k at

account-at : (ops : List AtStation) (place k : ℕ) (o : AtStation) → slice_get ops k ≡ Some o → get_elem? (accounts_of (column place (operator_lists_of ops))) k ≡ some (desk_at place o).own
account-at [] place k o at = absurd (none-some o at)
account-at (p ∷ ops) place zero o at = ap (λ (x : AtStation). some (desk_at place x).own) (same_Some p o at)
account-at (p ∷ ops) place (suc k) o at = account-at ops place k o at

-- if the heads of an operator's desks have these settings at a place, the operator has seen them at the desk at this
-- place
desk-settings : (desks : List AtLock) (k : ℕ) (s : Settings) → slice_get (map (λ (h : Identity). h.settings) (heads_of desks)) k ≡ Some s
    → (slice_index_or desks k nobody).own.seen.head.settings ≡ s
desk-settings [] k s at = absurd (none-some s at)
desk-settings (d ∷ desks) zero s at = same_Some d.own.seen.head.settings s at
desk-settings (d ∷ desks) (suc k) s at = desk-settings desks k s at

-- if an operator has made no event at all, it has made none at any one desk
nothing-at : (o : AtStation) (place : ℕ) → HasMadeNothing o → (desk_at place o).own.made ≡ []
nothing-at o place nothing = elim (cases_lt place (length o.desks)) [
  | inl inside ↦ nothing place nobody inside
  | inr past ↦ ap (λ (d : AtLock). d.own.made) (get_or_past o.desks place nobody past)
]

-- ---- a plan that was carried out

-- a plan still fits the channels after the station has issued operators
issued-planned : (parted : Parted) (station : Roster) (n : ℕ) (rack : Racked) → station ≡ record parted.station { issued = n } → IsPlanned parted rack → IsPlanned (record parted { station = station }) rack
issued-planned parted station n rack issued planned =
    subst (λ (s : Roster). IsPlanned (record parted { station = s }) rack) (sym issued)
    (record { spacecraft = planned.spacecraft; ids = planned.ids; lists = planned.lists; settings = planned.settings; distinct = planned.distinct; jobs = planned.jobs })

module _ (laws : WorkLaws) (station : Roster) (lists : List WorkList) (rack : Racked) (planned : IsPlanned (record { station = station; lists = lists }) rack) where
  -- there are as many workers as channels
  long-shifts : (shifts : List Shift) → map (λ (s : Shift). s.list) shifts ≡ lists → length shifts ≡ length rack.channels
  long-shifts shifts same =
      sym (length-map shifts (λ (s : Shift). s.list)) ∙ (ap (length {A = WorkList}) same
      ∙ (sym (length-map lists (λ (l : WorkList). l.vcid)) ∙ (ap (length {A = ℕ}) (planned.lists ∙ sym planned.ids) ∙ length-map rack.channels vcid_of)))

  -- at the place of a channel, the station has the settings of this channel
  settings-at : (k : ℕ) (c : Linked) → slice_get rack.channels k ≡ Some c → slice_get (settings_in station) k ≡ Some c.history.settings
  settings-at k c at = ap (λ (l : List Settings). slice_get l k) (sym planned.settings) ∙ mapped-at (λ (y : Linked). y.history.settings) rack.channels k c at

  -- at the desk of its list, each worker has made the events of the journal of the list's channel
  shift-worked : (shifts : List Shift) → map (λ (s : Shift). s.list) shifts ≡ lists → AllByRecursion (IsShift station) shifts → lowest shifts ≡ None → (k : ℕ) (x : Shift) (c : Linked)
      → slice_get shifts k ≡ Some x → slice_get rack.channels k ≡ Some c → IsWorkedAt c.history.settings k [] c.history.journal x.before x.after
  shift-worked shifts same each none k x c at here =
      let list : slice_get lists k ≡ Some x.list = ap (λ (l : List WorkList). slice_get l k) (sym same) ∙ mapped-at (λ (s : Shift). s.list) shifts k x at in
      let id : slice_get station.vcids k ≡ Some x.list.vcid = ap (λ (l : List ℕ). slice_get l k) (sym planned.lists) ∙ mapped-at (λ (l : WorkList). l.vcid) lists k x.list list in
      list-worked laws station k x.list.vcid x.list.jobs c.history.settings [] c.history.journal x.before x.after
      (place-of station k x.list.vcid planned.distinct id) (planned.jobs k x.list c list here) (all-made station shifts each none k x at)

  -- once the station is closed, the channel of a list has the settings and the journal of the channel at the list's
  -- place
  one-closed : (shifts : List Shift) (befores ops : List AtStation) → map (λ (s : Shift). s.list) shifts ≡ lists → map (λ (s : Shift). s.before) shifts ≡ befores → map (λ (s : Shift). s.after) shifts ≡ ops
      → AllByRecursion (IsShift station) shifts → lowest shifts ≡ None → All HasMadeNothing befores → All (KnowsDesks station) befores
      → (k : ℕ) (c : Linked) (x : Shift) (owned_desk : AtLock) (h : History) → slice_get rack.channels k ≡ Some c → slice_get shifts k ≡ Some x
      → owned_desk.own.seen.head.settings ≡ c.history.settings → IsClosed owned_desk (column k (operator_lists_of ops)) h → h ≡ c.history
  one-closed shifts befores ops of-lists of-befores of-ops each none nothing knows k c x owned_desk h here at settings closed =
      let makers = accounts_of (column k (operator_lists_of ops)) in
      let op-at : (i : ℕ) (y : Shift) → slice_get shifts i ≡ Some y → slice_get ops i ≡ Some y.after =
      λ i y is. ap (λ (l : List AtStation). slice_get l i) (sym of-ops) ∙ mapped-at (λ (s : Shift). s.after) shifts i y is in
      let before-at : (i : ℕ) (y : Shift) → slice_get shifts i ≡ Some y → slice_get befores i ≡ Some y.before =
      λ i y is. ap (λ (l : List AtStation). slice_get l i) (sym of-befores) ∙ mapped-at (λ (s : Shift). s.before) shifts i y is in
      let nothing-before : (i : ℕ) (y : Shift) → slice_get shifts i ≡ Some y → HasMadeNothing y.before =
      λ i y is. was-there HasMadeNothing befores i y.before (before-at i y is) nothing in
      let knows-before : KnowsDesks station x.before = was-there (KnowsDesks station) befores k x.before (before-at k x at) knows in
      let long = long-shifts shifts of-lists in
      let elsewhere : (i : ℕ) → i ≢ k → made_by makers i ≡ [] = λ i apart. elim (slice_get_cases shifts i).1 [
        | inl there ↦
            let y = there.0 in
            let channel = element rack.channels i (omega (arith, there.1, long)) in
            let worked = shift-worked shifts of-lists each none i y channel.0 there.2 channel.1 in
            maker-at ops k i y.after (op-at i y there.2) ∙ (worked.elsewhere k (λ e. apart (sym e)) ∙ nothing-at y.before k (nothing-before i y there.2))
        | inr past ↦
            let long-ops : length ops ≡ length shifts = ap (length {A = AtStation}) (sym of-ops) ∙ length-map shifts (λ (s : Shift). s.after) in
            maker-past ops k i (slice_get_past ops i (omega (arith, past.0, long-ops)))
      ] in
      let worked = shift-worked shifts of-lists each none k x c at here in
      let before = desk_at k x.before in
      let own = (desk_at k x.after).own in
      let no-made : before.own.made ≡ [] = nothing-at x.before k (nothing-before k x at) in
      let its : HasSeenItsOwn before.own = let count = ap (length {A = ℕ × Event}) no-made in omega (arith, count) in
      let after = worked.here its in
      let behind : IsBeginning own.seen (record { head = owned_desk.own.seen.head; entries = h.journal }) = closed.seen k own (account-at ops k k x.after (op-at k x at)) in
      let whole = laws.maker makers k own h.journal (maker-at ops k k x.after (op-at k x at)) elsewhere after.0 (refl, behind.1) closed.merge in
      let start = after.1 whole.0 in
      let known : slice_get (map (λ (i : Identity). i.settings) (heads_of x.before.desks)) k ≡ Some c.history.settings =
      ap (λ (l : List Identity). slice_get (map (λ (i : Identity). i.settings) l) k) knows-before ∙ settings-at k c here in
      let seen : HasSeen c.history.settings [] before = (desk-settings x.before.desks k c.history.settings known, no-event before.own start.0 no-made) in
      let journal : h.journal ≡ c.history.journal = sym whole.1 ∙ (start.1 seen).1 in
      let same : h.settings ≡ c.history.settings = closed.settings ∙ settings in
      λ i. record { settings = same i; journal = journal i }

  -- once the station is closed, its channels are the channels that result when the lines are carried out in order
  all-closed : (befores ops : List AtStation) (closed : List History) → All HasMadeNothing befores → All (KnowsDesks station) befores → AreWorked station lists None befores ops
      → AreClosedTogether station ops closed → closed ≡ histories rack
  all-closed befores ops closed nothing knows (shifts, of-lists, of-befores, of-ops, each, none) (owned_desks, owned, all) =
      let head : AtLock → Identity = λ d. d.own.seen.head in
      let settings : Identity → Settings = λ d. d.settings in
      let long-owned_desks : length owned_desks ≡ length station.heads = sym (length-map owned_desks head) ∙ ap (length {A = Identity}) owned.1 in
      let long-heads : length station.heads ≡ length rack.channels =
      sym (length-map station.heads settings) ∙ (ap (length {A = Settings}) (sym planned.settings) ∙ length-map rack.channels (λ (c : Linked). c.history.settings)) in
      same-mapped (λ (c : Linked). c.history) rack.channels closed (all.as_many ∙ (long-owned_desks ∙ long-heads)) (λ k c h here at.
      let inside = slice_get_within rack.channels k c here in
      let shift = element shifts k (omega (arith, inside, long-shifts shifts of-lists)) in
      let owned_desk = element owned_desks k (omega (arith, inside, long-owned_desks, long-heads)) in
      let known : slice_get (map (λ (i : Identity). i.settings) (heads_of owned_desks)) k ≡ Some c.history.settings =
      ap (λ (l : List Identity). slice_get (map (λ (i : Identity). i.settings) l) k) owned.1 ∙ settings-at k c here in
      let own : owned_desk.0.own.seen.head.settings ≡ c.history.settings =
      ap (λ (d : AtLock). d.own.seen.head.settings) (sym (get_or_from_slice_get owned_desks k owned_desk.0 nobody owned_desk.1)) ∙ desk-settings owned_desks k c.history.settings known in
      one-closed shifts befores ops of-lists of-befores of-ops each none nothing knows k c shift.0 owned_desk.0 h here shift.1 own (all.each k owned_desk.0 h owned_desk.1 at))

-- the workers leave the channels to which the lines lead when they are carried out in order, but perhaps listed in
-- another order
worked-channels : WorkLaws → (parted : Parted) (rack : Racked) (channels : List History) → IsPlanned parted rack → IsWorkedOut parted channels → IsPermutation (histories rack) channels
worked-channels laws parted rack channels planned out =
    let issued = issued-planned parted out.station (length parted.lists) rack out.issued planned in
    let same = all-closed laws out.station parted.lists rack issued out.befores out.operators out.closed.there out.nothing out.knows out.worked out.closed.closed in
    subst (λ (l : List History). IsPermutation l channels) same out.closed.all

-- the report on the channels that result from the workers is the report of the script when its lines are carried out in
-- order
pub worked-report : WorkLaws → (scid : ℕ) (script : List ℕ) (channels : List History) (text : List ℕ) → AreWorkedChannels scid script channels → IsReportOf channels text
    → (answers : List (Option Answer)) × (progress : Progress) × AreAnswers (IsPerformed scid) script answers progress [] × IsScriptReport scid progress text
worked-report laws scid script channels text (count, plan, parted, inl (none, empty)) of =
    let lines = all-planned scid script count plan [] parted in
    (lines.0, lines.1, lines.2, inl (sym (matched-phase plan lines.1 lines.3) ∙ none, of.written ∙ ap report_text empty))
worked-report laws scid script channels text (count, plan, parted, inr (found, for, out)) of =
    let lines = all-planned scid script count plan [] parted in
    let planned = found-planned scid plan lines.1 found lines.3 for in
    (lines.0, lines.1, lines.2, inr (channels, worked-channels laws found (rack_for scid lines.1) channels planned out, of))
