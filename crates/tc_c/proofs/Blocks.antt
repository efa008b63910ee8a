-- Lemmas about the code blocks of a CLTU, and about the lengths of a CLTU and of its code blocks.
use Rattle.tc_c.proofs.Names.{◌≡◌, ℕ, ◌+◌, ◌*◌, ◌/◌, ◌<◌, ◌≤◌, List, [], ◌∷◌, ◌++◌, length, drop, take, refl, ap, ◌∙◌, arith, length-append, code_block, cltu, filled, code_blocks, start_sequence, tail_sequence}

pub blocks-length : (os : List ℕ) → length (code_blocks (filled os)) ≡ 8 * ((length os + 6) / 7)
blocks-length (a ∷ b ∷ c ∷ d ∷ e ∷ f ∷ g ∷ os) = let rest = blocks-length os in omega arith
blocks-length _ = refl

ends-length : (xs : List ℕ) → length (start_sequence ++ xs ++ tail_sequence) ≡ length xs + 10
ends-length xs = let all : length (xs ++ tail_sequence) ≡ length xs + 8 = length-append xs tail_sequence in omega arith

pub cltu-length : (os : List ℕ) → length (cltu os) ≡ 8 * ((length os + 6) / 7) + 10
cltu-length os = ends-length (code_blocks (filled os)) ∙ ap (λ (k : ℕ). k + 10) (blocks-length os)

-- `filled` appends 0x55 to one to seven octets until there are seven
pub filled-few : (os : List ℕ) → 0 < length os → length os ≤ 7 → os ++ drop (length os) (0x55 ∷ 0x55 ∷ 0x55 ∷ 0x55 ∷ 0x55 ∷ 0x55 ∷ 0x55 ∷ []) ≡ filled os
filled-few [] some few = absurd (omega arith)
filled-few (a ∷ b ∷ c ∷ d ∷ e ∷ f ∷ g ∷ h ∷ os) some few = absurd (omega arith)
filled-few _ some few = refl

pub first-block : (os : List ℕ) → 7 ≤ length os → code_blocks (filled os) ≡ code_block (filled (take 7 os)) ++ code_blocks (filled (drop 7 os))
first-block (a ∷ b ∷ c ∷ d ∷ e ∷ f ∷ g ∷ os) some = refl
first-block _ some = absurd (omega arith)
