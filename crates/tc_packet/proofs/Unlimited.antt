-- In a store whose limits are all the largest unit, the limits change no run and no unit.
use Rattle.std.proofs.Common.{◌≡◌, ◌≢◌, ℕ, zero, suc, ◌<◌, ◌≤◌, Bool, true, false, get_or, List, [], ◌∷◌, ◌++◌, length, Option, Some, None, inl, inr, replicate, refl, sym, ap, subst, ◌∙◌, arith}
use Rattle.std.proofs.lemmas.Bool.{cases_eq, cases_lt}
use Rattle.std.proofs.lemmas.List.{get_or_past}
use Rattle.tc_packet.proofs.AtMost.{at_most-some}
use Rattle.tc_packet.proofs.Names.{LeaveWithin, OpenRuns, Store, run_at, stream_place}
use Rattle.tc_packet.proofs.Stores.{committed-limits, committed-others, committed-segmented}
use Rattle.tc_packet.proofs.Streams.{bounded-within, left-by, open-within, unit-within}
use Rattle.tc_packet.specs.Reassembly.{AreOpenRuns, IsWithinLimit, Leave, at_most, run_left, unit_ended}
use Rattle.tc_packet.specs.Store.{IsUnlimited, first_runs, limit_at, of_streams, open_runs, committed}
use Rattle.tc_packet.specs.declared.runs.Ended.{Ended}
use Rattle.tc_packet.specs.declared.service.Service.{Service}
use Rattle.tc_packet.specs.declared.service.Service.TheVariants.{Ad, Bd}

abbrev Runs : Type 0
Runs = List (Option (List ℕ))

-- reading the first runs, by place

length-first : (n : ℕ) (runs : Runs) → length (first_runs n runs) ≡ n
length-first zero runs = refl
length-first (suc n) [] = ap suc (length-first n [])
length-first (suc n) (run ∷ runs) = ap suc (length-first n runs)

first-at : (n i : ℕ) (runs : Runs) → i < n → get_or (first_runs n runs) i None ≡ get_or runs i None
first-at zero i runs inside = absurd (omega arith)
first-at (suc n) zero [] inside = refl
first-at (suc n) (suc i) [] inside = first-at n i [] (omega arith)
first-at (suc n) zero (run ∷ runs) inside = refl
first-at (suc n) (suc i) (run ∷ runs) inside = first-at n i runs (omega arith)

pub stream-at : (store : Store) (place : ℕ) → place < 128 → run_at (of_streams (open_runs store)).runs place ≡ run_at (open_runs store).runs place
stream-at store place inside = first-at 128 place (open_runs store).runs inside

beyond : (opened : OpenRuns) (place : ℕ) → 128 ≤ place → run_at (of_streams opened).runs place ≡ None
beyond opened place past = get_or_past (of_streams opened).runs place None (omega (arith, length-first 128 opened.runs))

none-first : (n : ℕ) (runs : Runs) → ((place : ℕ) → get_or runs place None ≡ None) → first_runs n runs ≡ replicate n None
none-first zero runs none = refl
none-first (suc n) [] none = ap (λ (x : Runs). None ∷ x) (none-first n [] (λ place. refl))
none-first (suc n) (run ∷ runs) none = rw (none 0) (ap (λ (x : Runs). None ∷ x) (none-first n runs (λ place. none (suc place))))

pub place-inside : (service : Service) (field : List ℕ) → stream_place service field < 128
place-inside Ad field = omega arith
place-inside Bd field = omega arith

pub others-stay : (old new : Store) (place : ℕ) → ((other : ℕ) → other ≢ place → run_at (open_runs new).runs other ≡ run_at (open_runs old).runs other)
    → (other : ℕ) → other ≢ place → run_at (of_streams (open_runs new)).runs other ≡ run_at (of_streams (open_runs old)).runs other
others-stay old new place same other apart = elim (cases_lt other 128) [
  | inl inside ↦ stream-at new other inside ∙ same other apart ∙ sym (stream-at old other inside)
  | inr past ↦ beyond (open_runs new) other past ∙ sym (beyond (open_runs old) other past)
]

-- the largest unit as a limit changes no octets within the limit

whole : (octets : Option (List ℕ)) → IsWithinLimit octets → at_most 65542 octets ≡ octets
whole None within = refl
whole (Some octets) within = at_most-some 65542 octets within

left-within : (segmented : Bool) (fields : List (List ℕ)) → IsWithinLimit (run_left segmented fields)
left-within true fields = open-within fields
left-within false fields = tt

ended-within : (segmented : Bool) (fields : List (List ℕ)) (field : List ℕ) → IsWithinLimit (unit_ended segmented fields field)
ended-within true fields field = unit-within fields field
ended-within false fields field = bounded-within field

module _ (store : Store) (place : ℕ) (limit : limit_at store place ≡ 65542) (inside : place < 128) where
  whole-run : (fields : List (List ℕ)) → at_most (limit_at store place) (run_left store.segmented fields) ≡ run_left store.segmented fields
  whole-run fields = ap (λ (n : ℕ). at_most n (run_left store.segmented fields)) limit ∙ whole (run_left store.segmented fields) (left-within store.segmented fields)

  pub whole-unit : (fields : List (List ℕ)) (field : List ℕ) → at_most (limit_at store place) (unit_ended store.segmented fields field) ≡ unit_ended store.segmented fields field
  whole-unit fields field = ap (λ (n : ℕ). at_most n (unit_ended store.segmented fields field)) limit ∙ whole (unit_ended store.segmented fields field) (ended-within store.segmented fields field)

  pub leave-within : (fields : List (List ℕ)) → Leave fields (of_streams (open_runs store)) place → LeaveWithin fields store place
  leave-within fields left = whole-run fields ∙ left ∙ stream-at store place inside

  pub within-leave : (fields : List (List ℕ)) → LeaveWithin fields store place → Leave fields (of_streams (open_runs store)) place
  within-leave fields left = sym (whole-run fields) ∙ left ∙ sym (stream-at store place inside)

pub begun : (store : Store) → ((place : ℕ) → run_at (open_runs store).runs place ≡ None) → (of_streams (open_runs store)).runs ≡ replicate 128 None
begun store none = none-first 128 (open_runs store).runs none

pub unlimited-begun : (store : Store) → ((place : ℕ) → run_at (open_runs store).runs place ≡ None) → ((place : ℕ) → place < 128 → limit_at store place ≡ 65542) → IsUnlimited store
unlimited-begun store none limits = record {
  limits = limits;
  runs = record {
    streams = length-first 128 (open_runs store).runs;
    limit = λ place. subst IsWithinLimit (sym (none-at place)) tt;
    plain = λ off place. none-at place;
  };
} where
  none-at : (place : ℕ) → run_at (of_streams (open_runs store)).runs place ≡ None
  none-at place = elim (cases_lt place 128) [
    | inl inside ↦ stream-at store place inside ∙ none place
    | inr past ↦ beyond (open_runs store) place past
  ]

-- one more field of the stream with this place moved its run on, and left all limits and the runs of other streams as they were
pub record HasMovedOn (old new : Store) (place : ℕ) (field : List ℕ) : Type 0 where
  pub segmented : new.segmented ≡ old.segmented
  pub limits : (at : ℕ) → limit_at new at ≡ limit_at old at
  pub others : (other : ℕ) → other ≢ place → run_at (open_runs new).runs other ≡ run_at (open_runs old).runs other
  pub run : (fields : List (List ℕ)) → LeaveWithin fields old place → LeaveWithin (fields ++ field ∷ []) new place

-- the run of each stream, open or not, is left by some fields
some-fields : (store : Store) (place : ℕ) → place < 128 → IsUnlimited store → (fields : List (List ℕ)) × LeaveWithin fields store place
some-fields store place inside is = by store.segmented refl where
  by : (segmented : Bool) → store.segmented ≡ segmented → (fields : List (List ℕ)) × LeaveWithin fields store place
  by true on =
      let left = left-by 0 (run_at (of_streams (open_runs store)).runs place) (omega arith) (is.runs.limit place) in
      (left.fields, leave-within store place (is.limits place inside) inside left.fields (rw on left.leaves))
  by false off = ([], leave-within store place (is.limits place inside) inside [] (rw off (sym (is.runs.plain off place))))

module _ {old new : Store} {place : ℕ} {field : List ℕ} (inside : place < 128) (is : IsUnlimited old) (m : HasMovedOn old new place field) where
  new-limit : limit_at new place ≡ 65542
  new-limit = m.limits place ∙ is.limits place inside

  pub moved : (fields : List (List ℕ)) → Leave fields (of_streams (open_runs old)) place → Leave (fields ++ field ∷ []) (of_streams (open_runs new)) place
  moved fields left = within-leave new place new-limit inside (fields ++ field ∷ []) (m.run fields (leave-within old place (is.limits place inside) inside fields left))

  pub unlimited-moved : IsUnlimited new
  unlimited-moved =
      let some = some-fields old place inside is in
      let left : Leave (some.0 ++ field ∷ []) (of_streams (open_runs new)) place = within-leave new place new-limit inside (some.0 ++ field ∷ []) (m.run some.0 some.1) in
      record {
        limits = λ at there. m.limits at ∙ is.limits at there;
        runs = record {
          streams = length-first 128 (open_runs new).runs;
          limit = λ at. elim (cases_eq at place) [
            | inl e ↦ subst (λ (k : ℕ). IsWithinLimit (run_at (of_streams (open_runs new)).runs k)) (sym e) (subst IsWithinLimit left (left-within new.segmented (some.0 ++ field ∷ [])))
            | inr apart ↦ subst IsWithinLimit (sym (others-stay old new place m.others at apart)) (is.runs.limit at)
          ];
          plain = λ off at. elim (cases_eq at place) [
            | inl e ↦ subst (λ (k : ℕ). run_at (of_streams (open_runs new)).runs k ≡ None) (sym e) (sym left ∙ rw off refl)
            | inr apart ↦ others-stay old new place m.others at apart ∙ is.runs.plain (sym m.segmented ∙ off) at
          ];
        };
      }

-- a field moves its stream's run on when the unit that it completed is committed
pub taken : {old new : Store} {place : ℕ} {field : List ℕ} (mid : Store) (ended : Ended) → mid.segmented ≡ old.segmented → ((at : ℕ) → limit_at mid at ≡ limit_at old at)
    → ((other : ℕ) → other ≢ place → run_at (open_runs mid).runs other ≡ run_at (open_runs old).runs other)
    → ((fields : List (List ℕ)) → LeaveWithin fields old place → LeaveWithin (fields ++ field ∷ []) (committed ended place mid) place)
    → new ≡ committed ended place mid → HasMovedOn old new place field
taken {place = place} mid ended segmented limits others run is = rw is (record {
  segmented = committed-segmented mid ended place ∙ segmented;
  limits = λ at. committed-limits mid ended place at ∙ limits at;
  others = λ other apart. committed-others mid ended place other apart ∙ others other apart;
  run = run;
})
