-- A limit for each MAP, and the proof that a limit of the largest unit leaves nothing out.
use Rattle.tc_channel.proofs.Names.{◌≡◌, ℕ, ◌≤◌, Bool, true, false, cond, List, ◌++◌, length, Option, Some, None, refl, ap, ◌∙◌, arith, ◌↔◌, nat_tests, Part, Service, IsWithinLimit, at_most, ended_by, largest_unit, open_run, stream, unit_ended, ChannelState, map_of, unit_of, no_limits}
use Rattle.tc_packet.specs.declared.segment.Part.TheVariants.{Last, Unsegmented}
use Rattle.tc_packet.specs.Segment.{body_of, header_of}
use Rattle.std.specs.Prelude.{nat_le}
use Rattle.tc_packet.proofs.Streams.{bounded-within}

-- each unit is within the largest size

within-ended : (part : Part) (run : Option (List ℕ)) (body : List ℕ) → IsWithinLimit (ended_by part run body)
within-ended Unsegmented run body = bounded-within body
within-ended Last (Some octets) body = bounded-within (octets ++ body)
within-ended _ _ body = tt

pub within-unit : (segmented : Bool) (fields : List (List ℕ)) (field : List ℕ) → IsWithinLimit (unit_ended segmented fields field)
within-unit true fields field = within-ended (header_of field).part (open_run fields) (body_of field)
within-unit false fields field = bounded-within field

-- a unit within the largest size is still within it if a limit is applied

pub within-both : (limit : ℕ) (o : Option (List ℕ)) → IsWithinLimit o → IsWithinLimit (at_most limit o)
within-both limit None within = tt
within-both limit (Some octets) within = by (nat_le (length octets) limit) where
  by : (t : Bool) → IsWithinLimit (cond t (Some octets) None)
  by true = within
  by false = tt

-- without a limit nothing is left out

pub all-within : (map_id : ℕ) (o : Option (List ℕ)) → IsWithinLimit o → at_most (no_limits map_id) o ≡ o
unfolding no_limits
all-within map_id None within = refl
all-within map_id (Some octets) within = let fits : nat_le (length octets) largest_unit ≡ true = grind (arith, nat_tests) in rw fits refl

pub unit-all : (map_id : ℕ) (segmented : Bool) (fields : List (List ℕ)) (field : List ℕ) → at_most (no_limits map_id) (unit_ended segmented fields field) ≡ unit_ended segmented fields field
unit-all map_id segmented fields field = all-within map_id (unit_ended segmented fields field) (within-unit segmented fields field)

-- a unit and the limit of its MAP

at_most-some : (limit : ℕ) (o : Option (List ℕ)) (octets : List ℕ) → (at_most limit o ≡ Some octets) ↔ ((o ≡ Some octets) × (length octets ≤ limit))
at_most-some limit None octets = (λ e. absurd cc, λ e. absurd (let n = e.0 in cc))
at_most-some limit (Some unit) octets = by (nat_le (length unit) limit) refl where
  by : (t : Bool) → nat_le (length unit) limit ≡ t → (cond t (Some unit) None ≡ Some octets) ↔ ((Some unit ≡ Some octets) × (length octets ≤ limit))
  by true fits = (λ e. let same : unit ≡ octets = cc in (e, let n = ap length same in grind (arith, nat_tests)), λ e. e.0)
  by false over = (λ e. absurd cc, λ e. absurd (let same : unit ≡ octets = (let f = e.0 in cc) in let n = ap length same in let fits = e.1 in grind (arith, nat_tests)))

pub limited-unit : (limits : ℕ → ℕ) (b : ChannelState) (service : Service) (field octets : List ℕ) → b.limit ≡ limits
    → (unit_of b service field ≡ Some octets) ↔ ((unit_ended b.segmented (stream service (map_of field) b.passed) field ≡ Some octets) × (length octets ≤ limits (map_of field)))
limited-unit limits b service field octets is = rw (← is) (at_most-some (b.limit (map_of field)) (unit_ended b.segmented (stream service (map_of field) b.passed) field) octets)

pub unlimited-unit : (b : ChannelState) (service : Service) (field : List ℕ) → b.limit ≡ no_limits → unit_of b service field ≡ unit_ended b.segmented (stream service (map_of field) b.passed) field
unlimited-unit b service field is =
    let ended = unit_ended b.segmented (stream service (map_of field) b.passed) field in
    ap (λ (l : ℕ → ℕ). at_most (l (map_of field)) ended) is ∙ unit-all (map_of field) b.segmented (stream service (map_of field) b.passed) field

-- a field without a segment header is a unit by itself if and only if it is no longer than the largest unit and the
-- limit at `map_of field`
pub plain-unit : (limits : ℕ → ℕ) (b : ChannelState) (service : Service) (field octets : List ℕ) → b.segmented ≡ false → b.limit ≡ limits
    → ((unit_ended false (stream service (map_of field) b.passed) field ≡ Some octets) ↔ ((octets ≡ field) × (length field ≤ largest_unit)))
    → (unit_of b service field ≡ Some octets) ↔ ((octets ≡ field) × (length field ≤ largest_unit) × (length field ≤ limits (map_of field)))
plain-unit limits b service field octets off is law =
    let both = limited-unit limits b service field octets is in
    let plain : (unit_ended b.segmented (stream service (map_of field) b.passed) field ≡ Some octets) ↔ ((octets ≡ field) × (length field ≤ largest_unit)) = rw off law in (
      λ e. (let u = both.0 e in let f = plain.0 u.0 in (f.0, f.1, let n = ap length f.0 in let fits = u.1 in omega arith)),
      λ h. both.1 (plain.1 (h.0, h.1), let n = ap length h.0 in let fits = h.2 in omega arith),
    )
