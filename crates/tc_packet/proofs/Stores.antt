-- The rooms of runs, read and written at one place.
use Rattle.std.proofs.Common.{◌≡◌, ◌≢◌, ℕ, zero, suc, ◌<◌, ◌≤◌, true, get_or, drop, subst, List, [], ◌∷◌, ◌++◌, length, map, Option, Some, None, refl, sym, ap, ◌∙◌, arith}
use Rattle.std.specs.Prelude.{set, slice_get, option_map, if◌then◌else◌}
use Rattle.std.proofs.lemmas.List.{length-map, map-set, get_or-map, get_or-set_same, get_or-set_other, set-get_or}
use Rattle.tc_packet.proofs.Names.{Contents, Part, next_run}
use Rattle.tc_packet.specs.Segment.{header_of, body_of}
use Rattle.tc_packet.specs.Reassembly.{at_most, run_at, run_left, open_run, unit_at, unit_ended, ended_by}
use Rattle.tc_packet.specs.OpenRun.{OpenRun, open_in, closed}
use Rattle.tc_packet.specs.Store.{open_runs, sizes_of, limit_at, ended_kind, behind, over_at, committed, ended_by_stream, unit_in, Store, LeaveWithin, IsAtMost, IsWritten, IsFollowed}
use Rattle.tc_packet.specs.declared.runs.EndedKind.{EndedKind}
use Rattle.tc_packet.specs.declared.runs.Ended.{Ended}
use Rattle.tc_packet.specs.declared.runs.Ended.TheVariants as ends
use Rattle.tc_packet.specs.declared.runs.EndedKind.TheVariants as ended_kinds
use Rattle.tc_packet.proofs.AtMost.{at_most-within, next-at_most, ended-at_most}

slice_get-set_same : {A : Type 0} (xs : List A) (i : ℕ) (x : A) → i < length xs → slice_get (set xs i x) i ≡ Some x
slice_get-set_same [] i x inside = absurd (omega arith)
slice_get-set_same (y ∷ xs) zero x inside = refl
slice_get-set_same (y ∷ xs) (suc i) x inside = slice_get-set_same xs i x (omega arith)

slice_get-set_other : {A : Type 0} (xs : List A) (i other : ℕ) (x : A) → other ≢ i → slice_get (set xs i x) other ≡ slice_get xs other
slice_get-set_other [] i other x apart = refl
slice_get-set_other (y ∷ xs) zero zero x apart = absurd (apart refl)
slice_get-set_other (y ∷ xs) zero (suc other) x apart = refl
slice_get-set_other (y ∷ xs) (suc i) zero x apart = refl
slice_get-set_other (y ∷ xs) (suc i) (suc other) x apart = slice_get-set_other xs i other x (λ e. apart (ap suc e))

pub read-open : (runs : List OpenRun) (i : ℕ) (run : OpenRun) → i < length runs → run ≡ get_or runs i run → run_at (map open_in runs) i ≡ open_in run
read-open runs i run inside is = get_or-map open_in runs i run None inside ∙ ap open_in (sym is)

pub read-size : (runs : List OpenRun) (i : ℕ) (run : OpenRun) → i < length runs → run ≡ get_or runs i run → get_or (sizes_of runs) i 0 ≡ run.room.size
read-size runs i run inside is = get_or-map (λ (r : OpenRun). r.room.size) runs i run 0 inside ∙ ap (λ (r : OpenRun). r.room.size) (sym is)

pub written-open : (runs : List OpenRun) (i : ℕ) (next : OpenRun) → i < length runs → run_at (map open_in (set runs i next)) i ≡ open_in next
written-open runs i next inside =
    ap (λ (x : List (Option (List ℕ))). get_or x i None) (map-set open_in runs i next) ∙ get_or-set_same (map open_in runs) i (open_in next) None (omega (arith, length-map runs open_in))

pub others-open : (runs : List OpenRun) (i other : ℕ) (next : OpenRun) → other ≢ i → run_at (map open_in (set runs i next)) other ≡ run_at (map open_in runs) other
others-open runs i other next apart =
    ap (λ (x : List (Option (List ℕ))). get_or x other None) (map-set open_in runs i next) ∙ get_or-set_other (map open_in runs) i other (open_in next) None apart

pub same-sizes : (runs : List OpenRun) (i : ℕ) (run next : OpenRun) → i < length runs → run ≡ get_or runs i run → next.room.size ≡ run.room.size → sizes_of (set runs i next) ≡ sizes_of runs
same-sizes runs i run next inside is same =
    map-set (λ (r : OpenRun). r.room.size) runs i next ∙ ap (λ (n : ℕ). set (sizes_of runs) i n) (same ∙ sym (read-size runs i run inside is)) ∙ set-get_or (sizes_of runs) i 0

-- one more field moves its stream's run on, as a law of tc_packet states
abbrev pub MovesOn : Type 0
MovesOn = (fields : List (List ℕ)) (field : List ℕ) → open_run (fields ++ field ∷ []) ≡ next_run (header_of field).part (open_run fields) (body_of field)

-- Let the fields leave `run`, and let one more field move `run` on to `next`, both within the limit. Then the fields and
-- the one more field leave `next` within the limit.
pub run-pushed : MovesOn → (n : ℕ) (next run : Option (List ℕ)) (fields : List (List ℕ)) (field body : List ℕ) (part : Part) → n ≤ 65542
    → part ≡ (header_of field).part → body ≡ body_of field → next ≡ at_most n (next_run part run body)
    → at_most n (open_run fields) ≡ run → at_most n (open_run (fields ++ field ∷ [])) ≡ next
run-pushed moves n next run fields field body part small part_is body_is next_is left =
    ap (at_most n) (moves fields field) ∙ sym (next-at_most n (header_of field).part (open_run fields) (body_of field) small)
    ∙ sym (next_is ∙ rw (part_is, body_is, ← left) refl)

pub unit-pushed : (n : ℕ) (unit run : Option (List ℕ)) (fields : List (List ℕ)) (field body : List ℕ) (part : Part) → n ≤ 65542
    → part ≡ (header_of field).part → body ≡ body_of field → unit ≡ at_most n (ended_by part run body)
    → at_most n (open_run fields) ≡ run → unit ≡ at_most n (unit_at fields field)
unit-pushed n unit run fields field body part small part_is body_is unit_is left =
    unit_is ∙ rw (part_is, body_is, ← left) (ended-at_most n (header_of field).part (open_run fields) (body_of field) small)

-- a store after one of its runs was written
abbrev pub with_run : Store → ℕ → OpenRun → Store
with_run store i next = record store { runs = set store.runs i next }

-- the unit lies at the place that is returned for it
ended-there : (store : Store) (i : ℕ) (next : OpenRun) (t : EndedKind) (field : List ℕ) → i < length store.runs → unit_in (ended_by_stream t i) (with_run store i next) field ≡ ended_kind t next (drop 1 field)
ended-there store i next ended_kinds.Whole field inside = ap (option_map (λ (r : OpenRun). r.room.octets)) (slice_get-set_same store.runs i next inside)
ended-there store i next _ field inside = refl

behind-room : (t : EndedKind) (next : OpenRun) → (behind t next).room ≡ next.room
behind-room ended_kinds.Nothing next = refl
behind-room _ next = refl

over-written : (runs : List OpenRun) (i : ℕ) (next : OpenRun) → i < length runs → over_at i (set runs i next) ≡ set runs i (closed next)
over-written (r ∷ runs) (suc i) next inside = ap (λ (xs : List OpenRun). r ∷ xs) (over-written runs i next (omega arith))
over-written _ _ next inside = refl

-- writing a run as closed at its place ends the run at that place
pub closed-set : (runs : List OpenRun) (i : ℕ) (run : OpenRun) → i < length runs → run ≡ get_or runs i run → set runs i (closed run) ≡ over_at i runs
closed-set [] i run inside is = absurd (omega arith)
closed-set (r ∷ runs) zero run inside is = ap (λ (x : OpenRun). closed x ∷ runs) is
closed-set (r ∷ runs) (suc i) run inside is = ap (λ (xs : List OpenRun). r ∷ xs) (closed-set runs i run (omega arith) is)

pub none-over : (runs : List OpenRun) (i : ℕ) → length runs ≤ i → runs ≡ over_at i runs
none-over [] i outside = refl
none-over (r ∷ runs) zero outside = absurd (omega arith)
none-over (r ∷ runs) (suc i) outside = ap (λ (xs : List OpenRun). r ∷ xs) (none-over runs i (omega arith))

-- after delivery, the store holds the run that `behind` defines at the stream's place
committed-is : (store : Store) (i : ℕ) (next : OpenRun) (t : EndedKind) → i < length store.runs → committed (ended_by_stream t i) i (with_run store i next) ≡ with_run store i (behind t next)
committed-is store i next ended_kinds.Nothing inside = refl
committed-is store i next ended_kinds.Body inside = ap (λ (xs : List OpenRun). record store { runs = xs }) (over-written store.runs i next inside)
committed-is store i next ended_kinds.Whole inside = ap (λ (xs : List OpenRun). record store { runs = xs }) (over-written store.runs i next inside)

over-sizes : (runs : List OpenRun) (i : ℕ) → sizes_of (over_at i runs) ≡ sizes_of runs
over-sizes (r ∷ runs) (suc i) = ap (λ (xs : List ℕ). r.room.size ∷ xs) (over-sizes runs i)
over-sizes _ _ = refl

over-others : (runs : List OpenRun) (i other : ℕ) → other ≢ i → run_at (map open_in (over_at i runs)) other ≡ run_at (map open_in runs) other
over-others (r ∷ runs) zero zero apart = absurd (apart refl)
over-others (r ∷ runs) (suc i) (suc other) apart = over-others runs i other (λ e. apart (ap suc e))
over-others _ _ _ apart = refl

pub committed-limits : (store : Store) (e : Ended) (i place : ℕ) → limit_at (committed e i store) place ≡ limit_at store place
committed-limits store ends.Nothing i place = refl
committed-limits store (ends.Lying from) i place = ap (λ (x : List ℕ). if store.segmented then get_or x place 0 else store.plain_limit) (over-sizes store.runs i)
committed-limits store (ends.Joined at) i place = ap (λ (x : List ℕ). if store.segmented then get_or x place 0 else store.plain_limit) (over-sizes store.runs i)

pub committed-others : (store : Store) (e : Ended) (i other : ℕ) → other ≢ i → run_at (open_runs (committed e i store)).runs other ≡ run_at (open_runs store).runs other
committed-others store ends.Nothing i other apart = refl
committed-others store (ends.Lying from) i other apart = over-others store.runs i other apart
committed-others store (ends.Joined at) i other apart = over-others store.runs i other apart

pub committed-segmented : (store : Store) (e : Ended) (i : ℕ) → (committed e i store).segmented ≡ store.segmented
committed-segmented store ends.Nothing i = refl
committed-segmented store _ i = refl

-- data fields have segment headers, the segment's run is at place `i`, and the segment has this part and this body
pub record IsPassed (store : Store) (i place : ℕ) (part : Part) (field body : List ℕ) : Type 0 where
  pub on : store.segmented ≡ true
  pub at : i ≡ place
  pub inside : i < length store.runs
  pub part_is : part ≡ (header_of field).part
  pub body_is : body ≡ drop 1 field

module _ {store : Store} {i place : ℕ} {part : Part} {field body : List ℕ} {later : List OpenRun} {t : EndedKind} (p : IsPassed store i place part field body) (f : IsFollowed i part body store.runs later t) where
  size-is : get_or (sizes_of store.runs) place 0 ≡ f.run.room.size
  size-is = ap (λ (k : ℕ). get_or (sizes_of store.runs) k 0) (sym p.at) ∙ read-size store.runs i f.run p.inside f.run_is

  open-is : run_at (map open_in store.runs) place ≡ open_in f.run
  open-is = ap (λ (k : ℕ). run_at (map open_in store.runs) k) (sym p.at) ∙ read-open store.runs i f.run p.inside f.run_is

  left-is : (fields : List (List ℕ)) → LeaveWithin fields store place → at_most f.run.room.size (open_run fields) ≡ open_in f.run
  left-is fields left =
      let on = p.on in
      let left' : at_most (get_or (sizes_of store.runs) place 0) (open_run fields) ≡ run_at (map open_in store.runs) place = rw on at left in
      ap (λ (n : ℕ). at_most n (open_run fields)) (sym size-is) ∙ left' ∙ open-is

  unit-is : unit_in (ended_by_stream t i) (record store { runs = later }) field ≡ ended_kind t f.next body
  unit-is = ap (λ (xs : List OpenRun). unit_in (ended_by_stream t i) (record store { runs = xs }) field) f.new_is ∙ ended-there store i f.next t field p.inside ∙ ap (ended_kind t f.next) (sym p.body_is)

  pub passed-unit : (fields : List (List ℕ)) → LeaveWithin fields store place → unit_in (ended_by_stream t i) (record store { runs = later }) field ≡ at_most (limit_at store place) (unit_ended store.segmented fields field)
  passed-unit fields left =
      let on = p.on in
      let back : at_most (get_or (sizes_of store.runs) place 0) (unit_at fields field) ≡ at_most (limit_at store place) (unit_ended store.segmented fields field) = rw on refl in
      unit-is ∙ unit-pushed f.run.room.size (ended_kind t f.next body) (open_in f.run) fields field body part f.small p.part_is p.body_is f.unit_is (left-is fields left)
      ∙ ap (λ (n : ℕ). at_most n (unit_at fields field)) (sym size-is) ∙ back

  pub passed-run : MovesOn → (fields : List (List ℕ)) → LeaveWithin fields store place → LeaveWithin (fields ++ field ∷ []) (committed (ended_by_stream t i) place (record store { runs = later })) place
  passed-run moves fields left =
      let on = p.on in
      let next : OpenRun = behind t f.next in
      let same : next.room.size ≡ f.run.room.size = ap (λ (r : Contents). r.size) (behind-room t f.next) ∙ f.same_size in
      let sizes = same-sizes store.runs i f.run next p.inside f.run_is same in
      let is : with_run store i next ≡ committed (ended_by_stream t i) place (record store { runs = later }) =
      sym (committed-is store i f.next t p.inside) ∙ ap (λ (xs : List OpenRun). committed (ended_by_stream t i) i (record store { runs = xs })) (sym f.new_is) ∙ ap (λ (k : ℕ). committed (ended_by_stream t i) k (record store { runs = later })) p.at in
      let front : at_most (limit_at (with_run store i next) place) (run_left store.segmented (fields ++ field ∷ [])) ≡ at_most (get_or (sizes_of (set store.runs i next)) place 0) (open_run (fields ++ field ∷ [])) = rw on refl in
      subst (λ (x : Store). LeaveWithin (fields ++ field ∷ []) x place) is
      (front ∙ ap (λ (x : List ℕ). at_most (get_or x place 0) (open_run (fields ++ field ∷ []))) sizes
      ∙ ap (λ (n : ℕ). at_most n (open_run (fields ++ field ∷ []))) size-is
      ∙ run-pushed moves f.run.room.size (open_in next) (open_in f.run) fields field body part f.small p.part_is p.body_is f.next_is (left-is fields left)
      ∙ sym (ap (λ (k : ℕ). run_at (map open_in (set store.runs i next)) k) (sym p.at) ∙ written-open store.runs i next p.inside))

  pub passed-within : IsAtMost (limit_at store place) (unit_in (ended_by_stream t i) (record store { runs = later }) field)
  passed-within =
      let on = p.on in
      let n : limit_at store place ≡ f.run.room.size = rw on size-is in
      let unit = unit-is ∙ f.unit_is in
      subst (λ (m : ℕ). IsAtMost m (unit_in (ended_by_stream t i) (record store { runs = later }) field)) (sym n)
      (subst (IsAtMost f.run.room.size) (sym unit) (at_most-within f.run.room.size (ended_by part (open_in f.run) body)))

  -- a segment that completed a unit leaves the runs as they were
  pub passed-contents : (t ≡ ended_kinds.Nothing → ⊥) → map open_in later ≡ map open_in store.runs
  passed-contents some =
      ap (map open_in) f.new_is ∙ map-set open_in store.runs i f.next
      ∙ ap (λ (o : Option (List ℕ)). set (map open_in store.runs) i o) (f.contents some ∙ sym (read-open store.runs i f.run p.inside f.run_is)) ∙ set-get_or (map open_in store.runs) i None

pub ended-nothing : (t : EndedKind) (i : ℕ) → (ended_by_stream t i ≡ ends.Nothing → ⊥) → t ≡ ended_kinds.Nothing → ⊥
ended-nothing t i some is = some (ap (λ (x : EndedKind). ended_by_stream x i) is)

pub written-others : (store : Store) (i place other : ℕ) (later : List OpenRun) → IsWritten i store.runs later → i ≡ place → (other ≡ place → ⊥) → run_at (map open_in later) other ≡ run_at (map open_in store.runs) other
written-others store i place other later w at apart = ap (λ (xs : List OpenRun). run_at (map open_in xs) other) w.is ∙ others-open store.runs i other w.next (λ e. apart (e ∙ at))

pub written-rooms : (store : Store) (i place other : ℕ) (later : List OpenRun) → IsWritten i store.runs later → i ≡ place → (other ≡ place → ⊥) → slice_get later other ≡ slice_get store.runs other
written-rooms store i place other later w at apart = ap (λ (xs : List OpenRun). slice_get xs other) w.is ∙ slice_get-set_other store.runs i other w.next (λ e. apart (e ∙ at))
