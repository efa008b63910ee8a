-- The relations for the open run and the unit hold of exactly the values that the functions compute.
use Rattle.std.proofs.Common.{◌≡◌, ℕ, ◌+◌, ◌/◌, ◌%◌, ◌<◌, ◌≤◌, Bool, true, false, cond, leb, List, [], ◌∷◌, ◌++◌, length, Option, Some, None, inl, inr, refl, sym, ap, subst, ◌∙◌, arith}
use Rattle.std.specs.Option.{option_and_then, option_or}
use Rattle.tc_packet.proofs.Names.{AllByRecursion, Continuing, First, Last, Part, Unsegmented, body_of, header_of}
use Rattle.std.proofs.lemmas.Bool.{and_parts, leb-true, le-leb}
use Rattle.std.proofs.lemmas.Option.{some_pair_parts}
use Rattle.tc_packet.specs.Reassembly.{IsPart, IsWithinLimit, IsOpenRun, IsUnit, IsLeftByFields, joined_bodies, bounded, extended, is_first, is_continuing, from_last_first, all_continue, run_of, open_run, ended_by, unit_at}
use Rattle.tc_packet.proofs.OpenRuns.{open_run-push}

abbrev Split : Type 0
Split = List ℕ × List (List ℕ)

first-part : (part : Part) → is_first part ≡ true → part ≡ First
first-part First h = refl
first-part _ h = cc

continuing-part : (part : Part) → is_continuing part ≡ true → part ≡ Continuing
continuing-part Continuing h = refl
continuing-part _ h = cc

-- if the test of all fields succeeds, each field is a continuing segment
each-continues : (fs : List (List ℕ)) → all_continue fs ≡ true → AllByRecursion (IsPart Continuing) fs
each-continues [] h = tt
each-continues (f ∷ fs) h =
    let p = and_parts (is_continuing (header_of f).part) (all_continue fs) h in
    (continuing-part (header_of f).part p.0, each-continues fs p.1)

all-continues : (fs : List (List ℕ)) → AllByRecursion (IsPart Continuing) fs → all_continue fs ≡ true
all-continues [] h = refl
all-continues (f ∷ fs) h = rw (h.0, all-continues fs h.1) refl

bounded-some : (octets : List ℕ) → length octets ≤ 65542 → bounded octets ≡ Some octets
bounded-some octets within = rw (le-leb (length octets) 65542 within) refl

pub bounded-within : (octets : List ℕ) → IsWithinLimit (bounded octets)
bounded-within octets = by (leb (length octets) 65542) refl where
  by : (t : Bool) → leb (length octets) 65542 ≡ t → IsWithinLimit (bounded octets)
  by true h = rw h (leb-true (length octets) 65542 h)
  by false h = rw h tt

some-bounded : (octets whole : List ℕ) → bounded octets ≡ Some whole → (whole ≡ octets) × (length whole ≤ 65542)
some-bounded octets whole h = by (leb (length octets) 65542) refl h where
  by : (t : Bool) → leb (length octets) 65542 ≡ t → cond t (Some octets) None ≡ Some whole → (whole ≡ octets) × (length whole ≤ 65542)
  by true e h = let same : whole ≡ octets = cc in (same, subst (λ (x : List ℕ). length x ≤ 65542) (sym same) (leb-true (length octets) 65542 e))
  by false e h = cc

-- `f` is a first segment among the fields, and `fs` are the fields after it
record Found (fields : List (List ℕ)) (f : List ℕ) (fs : List (List ℕ)) : Type 0 where
  before : List (List ℕ)
  parts : fields ≡ before ++ f ∷ fs
  opens : IsPart First f

found : (fields : List (List ℕ)) (f : List ℕ) (fs : List (List ℕ)) → from_last_first fields ≡ Some (f, fs) → Found fields f fs
found [] f fs h = cc
found (g ∷ gs) f fs h = by (from_last_first gs) refl (found gs f fs) h where
  here : (t : Bool) → is_first (header_of g).part ≡ t → cond {A = Option Split} t (Some (g, gs)) None ≡ Some (f, fs) → Found (g ∷ gs) f fs
  here true e h =
      let same = some_pair_parts g f gs fs h in
      record { before = []; parts = cc; opens = subst (IsPart First) same.0 (first-part (header_of g).part e) }
  here false e h = cc

  by : (o : Option Split) → from_last_first gs ≡ o → (from_last_first gs ≡ Some (f, fs) → Found gs f fs) → option_or o (cond {A = Option Split} (is_first (header_of g).part) (Some (g, gs)) None) ≡ Some (f, fs) → Found (g ∷ gs) f fs
  by (Some p) e later h = let r = later (e ∙ h) in record { before = g ∷ r.before; parts = ap (λ (x : List (List ℕ)). g ∷ x) r.parts; opens = r.opens }
  by None e later h = here (is_first (header_of g).part) refl h

-- there is no first segment among continuing segments
none-first : (fs : List (List ℕ)) → AllByRecursion (IsPart Continuing) fs → from_last_first fs ≡ None
none-first [] h = refl
none-first (f ∷ fs) h = rw (none-first fs h.1, h.0) refl

last-found : (before : List (List ℕ)) (f : List ℕ) (fs : List (List ℕ)) → IsPart First f → AllByRecursion (IsPart Continuing) fs → from_last_first (before ++ f ∷ fs) ≡ Some (f, fs)
last-found [] f fs first after = rw (none-first fs after, first) refl
last-found (g ∷ gs) f fs first after = rw (last-found gs f fs first after) refl

looks-back : (fields : List (List ℕ)) (octets : List ℕ) (o : Option Split) → from_last_first fields ≡ o → option_and_then run_of o ≡ Some octets → IsOpenRun fields octets
looks-back fields octets None e h = cc
looks-back fields octets (Some p) e h = by (all_continue p.1) refl h where
  by : (t : Bool) → all_continue p.1 ≡ t → cond t (bounded (joined_bodies (p.0 ∷ p.1))) None ≡ Some octets → IsOpenRun fields octets
  by true all h =
      let r = found fields p.0 p.1 e in
      let b = some-bounded (joined_bodies (p.0 ∷ p.1)) octets h in
      record { before = r.before; first = p.0; after = p.1; parts = r.parts; opens = r.opens; goes_on = each-continues p.1 all; joins = b.0; limit = b.1 }
  by false all h = cc

pub open-is : (fields : List (List ℕ)) (octets : List ℕ) → open_run fields ≡ Some octets → IsOpenRun fields octets
open-is fields octets h = looks-back fields octets (from_last_first fields) refl h

pub is-open : (fields : List (List ℕ)) (octets : List ℕ) → IsOpenRun fields octets → open_run fields ≡ Some octets
is-open fields octets run =
    let whole : from_last_first fields ≡ Some (run.first, run.after) = ap from_last_first run.parts ∙ last-found run.before run.first run.after run.opens run.goes_on in
    rw (whole, all-continues run.after run.goes_on, ← run.joins) (bounded-some octets run.limit)

pub unit-is : (fields : List (List ℕ)) (field octets : List ℕ) → unit_at fields field ≡ Some octets → IsUnit fields field octets
unit-is fields field octets h = by (header_of field).part refl h where
  last : (run : Option (List ℕ)) → open_run fields ≡ run → IsPart Last field → extended run (body_of field) ≡ Some octets → IsUnit fields field octets
  last None e part h = cc
  last (Some run) e part h =
      let b = some-bounded (run ++ body_of field) octets h in
      inr (record { run = run; opened = open-is fields run e; closes = part; joins = b.0; limit = b.1 })

  by : (part : Part) → (header_of field).part ≡ part → ended_by part (open_run fields) (body_of field) ≡ Some octets → IsUnit fields field octets
  by Last e h = last (open_run fields) refl e h
  by Unsegmented e h = let b = some-bounded (body_of field) octets h in inl (record { whole = e; joins = b.0; limit = b.1 })
  by _ e h = cc

pub is-unit : (fields : List (List ℕ)) (field octets : List ℕ) → IsUnit fields field octets → unit_at fields field ≡ Some octets
is-unit fields field octets (inl unit) = rw (unit.whole, ← unit.joins) (bounded-some octets unit.limit)
is-unit fields field octets (inr unit) = rw (unit.closes, is-open fields unit.run unit.opened, ← unit.joins) (bounded-some octets unit.limit)

pub open-within : (fields : List (List ℕ)) → IsWithinLimit (open_run fields)
open-within fields = by (from_last_first fields) where
  one : (t : Bool) (octets : List ℕ) → IsWithinLimit (cond t (bounded octets) None)
  one true octets = bounded-within octets
  one false octets = tt

  by : (o : Option Split) → IsWithinLimit (option_and_then run_of o)
  by None = tt
  by (Some p) = one (all_continue p.1) (joined_bodies (p.0 ∷ p.1))

pub unit-within : (fields : List (List ℕ)) (field : List ℕ) → IsWithinLimit (unit_at fields field)
unit-within fields field = by (header_of field).part (open_run fields) where
  by : (part : Part) (run : Option (List ℕ)) → IsWithinLimit (ended_by part run (body_of field))
  by First run = tt
  by Continuing run = tt
  by Last None = tt
  by Last (Some run) = bounded-within (run ++ body_of field)
  by Unsegmented run = bounded-within (body_of field)

pub left-by : (map : ℕ) (run : Option (List ℕ)) → map < 64 → IsWithinLimit run → IsLeftByFields map run
left-by map None small within = record { fields = []; stream = tt; leaves = refl }
left-by map (Some octets) small within =
    let one : (64 + map) / 64 ≡ 1 = omega arith in
    let id : (64 + map) % 64 ≡ map = omega arith in
    record {
      fields = ((64 + map) ∷ octets) ∷ [];
      stream = ((omega arith, id), tt);
      leaves = open_run-push [] ((64 + map) ∷ octets) ∙ rw one (bounded-some octets within);
    }
