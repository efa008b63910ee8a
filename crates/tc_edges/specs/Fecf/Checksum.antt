-- The frame error control field (CCSDS 232.0-B, 4.1.4), bit by bit.
--
-- A polynomial over GF(2) is the number whose binary digits are its coefficients: x ^ i is 2 ^ i, and a sum is `bit_xor`.
-- The generator G is x ^ 16 + x ^ 12 + x ^ 5 + 1.
use Rattle.std.specs.Prelude.{ℕ, ◌+◌, ◌*◌, ◌%◌, ◌^◌, List, [], ◌∷◌, ◌++◌, bit_xor}
use Rattle.tc_link.specs.Bits.{bits}

-- A polynomial of degree under 16, times x, modulo G. If a term in x ^ 16 arises, the other terms of G replace it.
unfoldable pub times_x : ℕ → ℕ
times_x r = bit_xor (r * 2 % 2 ^ 16) (bits r 15 1 * (2 ^ 12 + 2 ^ 5 + 1))

-- the register after one more bit: (r + b x ^ 15) x modulo G, since the message is shifted up by 16 places
abbrev pub with_bit : ℕ → ℕ → ℕ
with_bit r b = times_x (bit_xor r (b * 2 ^ 15))

-- the register after the bits, if it is `r` before them
abbrev pub remainder : ℕ → List ℕ → ℕ
remainder r [] = r
remainder r (b ∷ bs) = remainder (with_bit r b) bs

-- the bits of an octet, the most significant first
unfoldable pub octet_bits : ℕ → List ℕ
octet_bits o = bits o 7 1 ∷ bits o 6 1 ∷ bits o 5 1 ∷ bits o 4 1 ∷ bits o 3 1 ∷ bits o 2 1 ∷ bits o 1 1 ∷ bits o 0 1 ∷ []

abbrev pub bits_of : List ℕ → List ℕ
bits_of [] = []
bits_of (o ∷ os) = octet_bits o ++ bits_of os

-- The field over these octets. The register is preset to ones, which inverts the first 16 bits.
abbrev pub checksum_of : List ℕ → ℕ
checksum_of octets = remainder 0xffff (bits_of octets)
