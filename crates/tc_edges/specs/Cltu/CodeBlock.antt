-- Code blocks: the modified BCH (63, 56) code (CCSDS 231.0-B), bit by bit. Newer issues of the standard call them code
-- words.
--
-- A polynomial over GF(2) is the number whose binary digits are its coefficients: x ^ i is 2 ^ i, and a sum is `bit_xor`.
-- The generator G is x ^ 7 + x ^ 6 + x ^ 2 + 1.
use Rattle.std.specs.Prelude.{◌≡◌, ℕ, zero, suc, ◌+◌, ◌*◌, ◌-◌, ◌%◌, ◌^◌, List, [], ◌∷◌, ◌++◌, bit_xor, length, take, Option, Some, None, nat_lt, if◌then◌else◌}
use Rattle.std.specs.Int.{bit_at}
use Rattle.tc_link.specs.Frame.{IsOctets}
use Rattle.tc_edges.specs.Fecf.Checksum.{bits_of}
use Rattle.tc_edges.specs.Fecf.Changes.{differences}
use Rattle.tc_edges.specs.declared.cltu.block.Mode.{Mode}
use Rattle.tc_edges.specs.declared.cltu.block.Mode.TheVariants.{Detect, Correct}

-- A polynomial of degree under 7, times x, modulo G. If a term in x ^ 7 arises, the other terms of G replace it.
unfoldable pub block_times_x : ℕ → ℕ
block_times_x r = bit_xor (r * 2 % 2 ^ 7) (bit_at r 6 * (2 ^ 6 + 2 ^ 2 + 1))

-- the register after one more bit: (r + b x ^ 6) x modulo G, since the information is shifted up by 7 places
abbrev pub block_with_bit : ℕ → ℕ → ℕ
block_with_bit r b = block_times_x (bit_xor r (b * 2 ^ 6))

-- the register after the bits, if it is `r` before them
abbrev pub block_remainder : ℕ → List ℕ → ℕ
block_remainder r [] = r
block_remainder r (b ∷ bs) = block_remainder (block_with_bit r b) bs

-- the seven parity bits: the remainder, complemented
abbrev pub parity_of : List ℕ → ℕ
parity_of information = bit_xor (2 ^ 7 - 1) (block_remainder 0 (bits_of information))

-- the information is seven octets, which a code block can carry
pub record IsInformation (information : List ℕ) : Type 0 where
  pub each : IsOctets information
  pub seven : length information ≡ 7

-- the code block: the seven octets, the parity bits, and a filler bit 0
abbrev pub code_block : List ℕ → List ℕ
code_block information = information ++ parity_of information * 2 ∷ []

-- the 63 bits before the filler bit
abbrev pub word : List ℕ → List ℕ
word block = take 63 (bits_of block)

-- the number of places, out of 63, in which a block differs from the code block of the information
abbrev pub errors : List ℕ → List ℕ → ℕ
errors block information = differences (word block) (word (code_block information))

-- the largest number of errors that an accepted block may have
abbrev pub most_errors : Mode → ℕ
most_errors Detect = 0
most_errors Correct = 1

-- a list of octets with bit k inverted, where bit 0 is the most significant bit of the first octet
abbrev pub flipped : List ℕ → ℕ → List ℕ
flipped [] k = []
flipped (o ∷ os) k = if nat_lt k 8 then bit_xor o (2 ^ (7 - k)) ∷ os else o ∷ flipped os (k - 8)

-- the information with one of its bits inverted, for each bit from k - 1 down to 0, and then the information itself
abbrev pub near : List ℕ → ℕ → List (List ℕ)
near information zero = information ∷ []
near information (suc k) = flipped information k ∷ near information k

-- the first of a list of candidates whose code block differs from the block in at most `limit` bits, if there is one
abbrev pub first_within : ℕ → List ℕ → List (List ℕ) → Option (List ℕ)
first_within limit block [] = None
first_within limit block (information ∷ more) = if nat_lt limit (errors block information) then first_within limit block more else Some information

-- the octets that a code block carries, if it has no more errors than the mode allows
unfoldable pub decoded : Mode → List ℕ → Option (List ℕ)
decoded mode block = first_within (most_errors mode) block (near (take 7 block) 56)
