-- The remainder that is computed bit by bit is the remainder of the division.
use Rattle.std.proofs.Common.{◌≡◌, ℕ, suc, ◌*◌, ◌^◌, ◌<◌, List, bit_xor, refl, sym, ◌∙◌, arith}
use Rattle.tc_edges.specs.Fecf.Checksum.{times_x, remainder, bits_of, checksum_of}
use Rattle.tc_edges.specs.Fecf.Division.{times_generator, IsRemainder}
use Rattle.tc_edges.proofs.FecfLemmas.Linear.{times_x-fits}
use Rattle.tc_edges.proofs.FecfLemmas.Changes.{bits-bits}
use Rattle.tc_edges.proofs.FecfLemmas.Closing.{sum-fits}
use Rattle.tc_edges.proofs.FecfLemmas.Polynomials.{Divides, divides, quotient, one-remainder}

one-bit : (b : ℕ) → b < 2 → b * 4129 ≡ bit_xor (b * 2 ^ 12) (bit_xor (b * 2 ^ 5) b)
one-bit (suc (suc b)) less = absurd (omega arith)
one-bit _ less = refl

register : Divides 15 12 5 4129 remainder
unfolding times_x
register = record { whole = λ y less. omega arith; rest = one-bit; fits = times_x-fits; none = λ r. refl; more = λ r b bs. refl }

pub sum-is-remainder : (octets : List ℕ) → IsRemainder (checksum_of octets) (bits_of octets)
unfolding times_generator
sum-is-remainder octets = record {
  degree = sum-fits octets;
  quotient = quotient 15 4129 65535 (bits_of octets);
  divides = divides 15 12 5 4129 remainder register (bits_of octets) 65535 (bits-bits octets) (omega arith);
}

pub only-remainder : (r s : ℕ) (m : List ℕ) → IsRemainder r m → IsRemainder s m → r ≡ s
unfolding times_generator
only-remainder r s m one other =
    one-remainder 16 12 5 one.quotient other.quotient r s (omega arith) (omega arith) one.degree other.degree (sym one.divides ∙ other.divides)
