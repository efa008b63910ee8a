-- A frame with another length field.
use Rattle.std.proofs.Common.{◌≡◌, ℕ, suc, ◌/◌, ◌%◌, ◌≤◌, List, ◌∷◌, ◌++◌, length, drop, take, refl, arith}
use Rattle.std.specs.Prelude.{slice_set}
use Rattle.tc_edges.proofs.FecfLemmas.Plain.{head}

pub relengthened : (f : List ℕ) (n : ℕ) → 4 ≤ length f → slice_set (slice_set f 2 (n / 256 % 256)) 3 (n % 256) ≡ head f n ++ drop 4 f
relengthened (a ∷ b ∷ c ∷ d ∷ rest) n least = refl
relengthened _ n least = absurd (omega arith)

-- writing another length field into the front of a frame gives the front of the frame with that length field
pub cut-off : (f : List ℕ) (n k : ℕ) → 4 ≤ length f
    → slice_set (slice_set (take (suc (suc (suc (suc k)))) f) 2 (n / 256 % 256)) 3 (n % 256) ≡ head f n ++ take k (drop 4 f)
cut-off (a ∷ b ∷ c ∷ d ∷ rest) n k least = refl
cut-off _ n k least = absurd (omega arith)
