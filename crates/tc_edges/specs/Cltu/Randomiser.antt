-- The randomiser (CCSDS 231.0-B), with h(x) = x ^ 8 + x ^ 6 + x ^ 4 + x ^ 3 + x ^ 2 + x + 1 and a register of all ones
-- at the start.
use Rattle.std.specs.Prelude.{ℕ, zero, suc, ◌+◌, ◌*◌, ◌%◌, ◌^◌, List, [], ◌∷◌, bit_xor}
use Rattle.std.specs.Int.{bit_at}

-- The register holds the next eight bits of the sequence, the first as its most significant bit. Bit n + 8 of the
-- sequence is the sum, modulo 2, of bits n + 6, n + 4, n + 3, n + 2, n + 1 and n.
unfoldable pub next_bit : ℕ → ℕ
next_bit r = (bit_at r 1 + bit_at r 3 + bit_at r 4 + bit_at r 5 + bit_at r 6 + bit_at r 7) % 2

unfoldable pub moved_on : ℕ → ℕ
moved_on r = r * 2 % 2 ^ 8 + next_bit r

-- the register after eight more bits
unfoldable pub octet_on : ℕ → ℕ
octet_on r = moved_on (moved_on (moved_on (moved_on (moved_on (moved_on (moved_on (moved_on r)))))))

-- the octets, each combined by exclusive or with the next octet of the sequence, which starts with register `r`
abbrev pub randomised_from : ℕ → List ℕ → List ℕ
randomised_from r [] = []
randomised_from r (o ∷ os) = bit_xor o r ∷ randomised_from (octet_on r) os

abbrev pub randomised : List ℕ → List ℕ
randomised octets = randomised_from 0xff octets

-- the first `n` octets of the sequence that starts with register `r`
abbrev pub random_octets : ℕ → ℕ → List ℕ
random_octets r zero = []
random_octets r (suc n) = r ∷ random_octets (octet_on r) n

-- the first `n` bits of this sequence
abbrev pub random_bits : ℕ → ℕ → List ℕ
random_bits r zero = []
random_bits r (suc n) = bit_at r 7 ∷ random_bits (moved_on r) n
