-- Octets with their fill, and their code blocks.
use Rattle.std.proofs.Common.{◌≡◌, ℕ, ◌<◌, ◌≤◌, List, [], ◌∷◌, ◌++◌, length, drop, take, refl, arith}
use Rattle.tc_edges.proofs.CltuLemmas.Names.{code_block, code_blocks, filled}

pub filled-few : (os : List ℕ) → 0 < length os → length os < 7 → os ++ drop (length os) (0x55 ∷ 0x55 ∷ 0x55 ∷ 0x55 ∷ 0x55 ∷ 0x55 ∷ 0x55 ∷ []) ≡ filled os
filled-few [] some few = absurd (omega arith)
filled-few (a ∷ b ∷ c ∷ d ∷ e ∷ f ∷ g ∷ os) some few = absurd (omega arith)
filled-few _ some few = refl

pub first-block : (os : List ℕ) → 7 ≤ length os → code_blocks (filled os) ≡ code_block (take 7 os) ++ code_blocks (filled (drop 7 os))
first-block (a ∷ b ∷ c ∷ d ∷ e ∷ f ∷ g ∷ os) some = refl
first-block _ some = absurd (omega arith)
