-- Runs and units within a limit that isn't over the largest unit.
use Rattle.std.proofs.Common.{◌≡◌, ℕ, ◌<◌, ◌≤◌, Bool, true, false, leb, List, ◌++◌, length, Option, Some, None, refl, sym, ◌∙◌, arith}
use Rattle.std.proofs.lemmas.Bool.{le-leb, lt-leb, leb-true, leb-false}
use Rattle.tc_packet.proofs.Names.{IsAtMost, Part, length-append, next_run}
use Rattle.tc_packet.specs.declared.segment.Part.TheVariants.{Continuing, Last}
use Rattle.tc_packet.specs.Reassembly.{at_most, bounded, extended, ended_by}

pub at_most-some : (n : ℕ) (octets : List ℕ) → length octets ≤ n → at_most n (Some octets) ≡ Some octets
at_most-some n octets h = rw (le-leb (length octets) n h) refl

pub at_most-none : (n : ℕ) (octets : List ℕ) → n < length octets → at_most n (Some octets) ≡ None
at_most-none n octets h = rw (lt-leb (length octets) n h) refl

pub at_most-within : (n : ℕ) (o : Option (List ℕ)) → IsAtMost n (at_most n o)
at_most-within n None = tt
at_most-within n (Some octets) = by (leb (length octets) n) refl where
  by : (t : Bool) → leb (length octets) n ≡ t → IsAtMost n (at_most n (Some octets))
  by true h = rw h (leb-true (length octets) n h)
  by false h = rw h tt

-- if a limit is at most the largest unit, limiting octets to the largest unit first makes no difference
pub at_most-bounded : (n : ℕ) (octets : List ℕ) → n ≤ 65542 → at_most n (bounded octets) ≡ at_most n (Some octets)
at_most-bounded n octets small = by (leb (length octets) 65542) refl where
  by : (t : Bool) → leb (length octets) 65542 ≡ t → at_most n (bounded octets) ≡ at_most n (Some octets)
  by true h = rw h refl
  by false h = let long = leb-false (length octets) 65542 h in rw h (sym (at_most-none n octets (omega arith)))

-- limiting a run before a body is added doesn't change the limited result, since octets over a limit stay over it
at_most-extended : (n : ℕ) (run : Option (List ℕ)) (body : List ℕ) → n ≤ 65542 → at_most n (extended (at_most n run) body) ≡ at_most n (extended run body)
at_most-extended n None body small = refl
at_most-extended n (Some octets) body small = by (leb (length octets) n) refl where
  by : (t : Bool) → leb (length octets) n ≡ t → at_most n (extended (at_most n (Some octets)) body) ≡ at_most n (extended (Some octets) body)
  by true h = rw h refl
  by false h =
      let long = leb-false (length octets) n h in
      let l = length-append octets body in
      rw h (sym (at_most-bounded n (octets ++ body) small ∙ at_most-none n (octets ++ body) (omega arith)))

-- applying the limit before a segment doesn't change the limited run after that segment
pub next-at_most : (n : ℕ) (part : Part) (run : Option (List ℕ)) (body : List ℕ) → n ≤ 65542 → at_most n (next_run part (at_most n run) body) ≡ at_most n (next_run part run body)
next-at_most n Continuing run body small = at_most-extended n run body small
next-at_most n _ run body small = refl

pub ended-at_most : (n : ℕ) (part : Part) (run : Option (List ℕ)) (body : List ℕ) → n ≤ 65542 → at_most n (ended_by part (at_most n run) body) ≡ at_most n (ended_by part run body)
ended-at_most n Last run body small = at_most-extended n run body small
ended-at_most n _ run body small = refl

pub opened : (n : ℕ) (body : List ℕ) → n ≤ 65542 → length body ≤ n → at_most n (bounded body) ≡ Some body
opened n body small fits = at_most-bounded n body small ∙ at_most-some n body fits

pub refused : (n : ℕ) (body : List ℕ) → n ≤ 65542 → n < length body → at_most n (bounded body) ≡ None
refused n body small long = at_most-bounded n body small ∙ at_most-none n body long
