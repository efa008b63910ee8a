-- The division whose remainder gives the parity bits (CCSDS 231.0-B).
use Rattle.std.specs.Prelude.{◌≡◌, ℕ, ◌*◌, ◌^◌, ◌<◌, List, bit_xor}
use Rattle.tc_edges.specs.Fecf.Division.{polynomial}

-- the product Q G, as Q x ^ 7 + Q x ^ 6 + Q x ^ 2 + Q
unfoldable pub times_block_generator : ℕ → ℕ
times_block_generator q = bit_xor (bit_xor (q * 2 ^ 7) (q * 2 ^ 6)) (bit_xor (q * 2 ^ 2) q)

-- r is the remainder of x ^ 7 M divided by G: its degree is under 7, and x ^ 7 M is Q G + r for some Q
pub record IsBlockRemainder (r : ℕ) (m : List ℕ) : Type 0 where
  pub degree : r < 2 ^ 7
  pub quotient : ℕ
  pub divides : polynomial m * 2 ^ 7 ≡ bit_xor (times_block_generator quotient) r
