-- The division whose remainder is the field (CCSDS 232.0-B, 4.1.4.2).
use Rattle.std.specs.Prelude.{◌≡◌, ℕ, ◌*◌, ◌^◌, ◌<◌, List, [], ◌∷◌, bit_xor, length}

-- the polynomial with these coefficients, the highest first
abbrev pub polynomial : List ℕ → ℕ
polynomial [] = 0
polynomial (b ∷ bs) = bit_xor (b * 2 ^ length bs) (polynomial bs)

-- the product Q G, as Q x ^ 16 + Q x ^ 12 + Q x ^ 5 + Q
unfoldable pub times_generator : ℕ → ℕ
times_generator q = bit_xor (bit_xor (q * 2 ^ 16) (q * 2 ^ 12)) (bit_xor (q * 2 ^ 5) q)

-- x ^ 16 M + x ^ n L, where M has n coefficients and L is x ^ 15 + .. + x + 1
abbrev pub dividend : List ℕ → ℕ
dividend m = bit_xor (polynomial m * 2 ^ 16) (0xffff * 2 ^ length m)

-- r is the remainder of the dividend divided by G: its degree is under 16, and the dividend is Q G + r for some Q
pub record IsRemainder (r : ℕ) (m : List ℕ) : Type 0 where
  pub degree : r < 2 ^ 16
  pub quotient : ℕ
  pub divides : dividend m ≡ bit_xor (times_generator quotient) r
