-- Octets that were changed on their way.
use Rattle.std.specs.Prelude.{◌≡◌, ℕ, ◌+◌, ◌==◌, List, ◌∷◌, length, slice_index, if◌then◌else◌}
use Rattle.tc_link.specs.Frame.{IsOctets}
use Rattle.tc_edges.specs.Fecf.Checksum.{bits_of, checksum_of}

-- the octets, which end with a field, leave no remainder (CCSDS 232.0-B, 4.1.4.3)
abbrev pub Passes : List ℕ → Type 0
Passes octets = checksum_of octets ≡ 0

-- both lists consist of octets, and their lengths are equal
pub record SameOctets (one other : List ℕ) : Type 0 where
  pub each_one : IsOctets one
  pub each_other : IsOctets other
  pub length : length one ≡ length other

-- Two lists of octets have equal bits at each place for which P holds. The first place is the most significant bit of
-- the first octet.
abbrev pub SameBits : List ℕ → List ℕ → (ℕ → Type 0) → Type 0
SameBits one other P = (k : ℕ) → P k → slice_index (bits_of one) k ≡ slice_index (bits_of other) k

-- the number of places at which two lists of bits differ, up to the end of the shorter list
abbrev pub differences : List ℕ → List ℕ → ℕ
differences (b ∷ bs) (c ∷ cs) = (if b == c then 0 else 1) + differences bs cs
differences _ _ = 0
