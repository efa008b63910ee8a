-- The remainder is linear: the remainder of a sum is the sum of the remainders.
use Rattle.std.proofs.Common.{◌≡◌, ℕ, ◌*◌, ◌%◌, ◌^◌, ◌<◌, List, [], ◌∷◌, ◌++◌, bit_xor, refl, ap, sym, ◌∙◌, arith}
use Rattle.tc_edges.proofs.FecfLemmas.Names.{bits, remainder, times_x, with_bit, xor_assoc, xor_lt, xor_zero_r}
use Rattle.tc_edges.proofs.FecfLemmas.Polynomials.{times-linear}

pub times_x-linear : (a b : ℕ) → times_x (bit_xor a b) ≡ bit_xor (times_x a) (times_x b)
unfolding times_x
times_x-linear a b = times-linear 15 4129 a b

pub times_x-fits : (r : ℕ) → times_x r < 2 ^ 16
unfolding times_x
times_x-fits r = xor_lt 16 (r * 2 % 2 ^ 16) (bits r 15 1 * 4129) (omega arith) (omega arith)

-- the register after one 0 bit for each element of the list
unfoldable pub shifted : List ℕ → ℕ → ℕ
shifted [] r = r
shifted (b ∷ bs) r = shifted bs (times_x r)

-- if the register is the sum of `r` and `s`, the remainder is the sum of a part from `r` alone and the remainder from `s`
pub parts : (bs : List ℕ) (r s : ℕ) → remainder (bit_xor r s) bs ≡ bit_xor (shifted bs r) (remainder s bs)
unfolding shifted
parts [] r s = refl
parts (b ∷ bs) r s =
    ap (λ (x : ℕ). remainder x bs) (ap times_x (xor_assoc r s (b * 2 ^ 15)) ∙ times_x-linear r (bit_xor s (b * 2 ^ 15)))
    ∙ parts bs (times_x r) (with_bit s b)

pub from_register : (bs : List ℕ) (r : ℕ) → remainder r bs ≡ bit_xor (shifted bs r) (remainder 0 bs)
from_register bs r = ap (λ (x : ℕ). remainder x bs) (sym (xor_zero_r r)) ∙ parts bs r 0

pub shifted-linear : (bs : List ℕ) (a b : ℕ) → shifted bs (bit_xor a b) ≡ bit_xor (shifted bs a) (shifted bs b)
unfolding shifted
shifted-linear [] a b = refl
shifted-linear (c ∷ bs) a b = ap (shifted bs) (times_x-linear a b) ∙ shifted-linear bs (times_x a) (times_x b)

pub onward : (cs bs : List ℕ) (r : ℕ) → remainder r (cs ++ bs) ≡ remainder (remainder r cs) bs
onward [] bs r = refl
onward (c ∷ cs) bs r = onward cs bs (with_bit r c)
