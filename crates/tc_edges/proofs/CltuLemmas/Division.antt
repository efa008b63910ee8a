-- The remainder that a register computes is linear, and is the remainder of the division.
use Rattle.std.proofs.Common.{◌≡◌, ℕ, suc, ◌*◌, ◌%◌, ◌^◌, ◌<◌, List, [], ◌∷◌, ◌++◌, bit_xor, length, refl, ap, sym, ◌∙◌, arith}
use Rattle.tc_edges.proofs.CltuLemmas.Names.{bit_at, bits_of, block_remainder, block_times_x, block_with_bit, xor_lt, xor_zero_r}
use Rattle.tc_edges.specs.Fecf.Division.{polynomial}
use Rattle.tc_edges.proofs.FecfLemmas.Changes.{bits-bits}
use Rattle.tc_edges.proofs.FecfLemmas.Polynomials.{Divides, divides, quotient, one-remainder, times-linear}
use Rattle.tc_edges.specs.Cltu.Division.{times_block_generator, IsBlockRemainder}

pub times_x-linear : (a b : ℕ) → block_times_x (bit_xor a b) ≡ bit_xor (block_times_x a) (block_times_x b)
unfolding block_times_x
times_x-linear a b = times-linear 6 69 a b

pub times_x-fits : (r : ℕ) → block_times_x r < 2 ^ 7
unfolding block_times_x
times_x-fits r = xor_lt 7 (r * 2 % 2 ^ 7) (bit_at r 6 * 69) (omega arith) (omega arith)

pub remainder-fits : (bs : List ℕ) (r : ℕ) → r < 2 ^ 7 → block_remainder r bs < 2 ^ 7
remainder-fits [] r less = less
remainder-fits (b ∷ bs) r less = remainder-fits bs _ (times_x-fits _)

pub onward : (cs bs : List ℕ) (r : ℕ) → block_remainder r (cs ++ bs) ≡ block_remainder (block_remainder r cs) bs
onward [] bs r = refl
onward (c ∷ cs) bs r = onward cs bs (block_with_bit r c)

-- ---- the division
one-bit : (b : ℕ) → b < 2 → b * 69 ≡ bit_xor (b * 2 ^ 6) (bit_xor (b * 2 ^ 2) b)
one-bit (suc (suc b)) less = absurd (omega arith)
one-bit _ less = refl

register : Divides 6 6 2 69 block_remainder
unfolding block_times_x
register = record { whole = λ y less. omega arith; rest = one-bit; fits = times_x-fits; none = λ r. refl; more = λ r b bs. refl }

pub parity-is-remainder : (octets : List ℕ) → IsBlockRemainder (block_remainder 0 (bits_of octets)) (bits_of octets)
unfolding times_block_generator
parity-is-remainder octets =
    let p = polynomial (bits_of octets) * 2 ^ 7 in
    let none : 0 ≡ 0 * 2 ^ length (bits_of octets) = omega arith in
    record {
      degree = remainder-fits (bits_of octets) 0 (omega arith);
      quotient = quotient 6 69 0 (bits_of octets);
      divides = sym (xor_zero_r p) ∙ ap (bit_xor p) none ∙ divides 6 6 2 69 block_remainder register (bits_of octets) 0 (bits-bits octets) (omega arith);
    }

pub only-remainder : (r s : ℕ) (m : List ℕ) → IsBlockRemainder r m → IsBlockRemainder s m → r ≡ s
unfolding times_block_generator
only-remainder r s m one other =
    one-remainder 7 6 2 one.quotient other.quotient r s (omega arith) (omega arith) one.degree other.degree (sym one.divides ∙ other.divides)
