-- The number that a word spells.
use Rattle.std.proofs.Common.{◌≡◌, ◌<◌, ◌≤◌, ℕ, List, length, true, Some, arith}
use Rattle.std.proofs.lemmas.Grind.{common_steps}
use Rattle.std.specs.List.{list_all}
use Rattle.tc_lines.specs.Number.{is_digit, spelled_number, decimal_of}

pub decimal_of-spelled : (word : List ℕ) (number : ℕ) → 0 < length word → length word ≤ 5 → true ≡ list_all is_digit word → number ≡ spelled_number word
    → Some number ≡ decimal_of word
decimal_of-spelled word number filled short digits e = grind (arith, common_steps)
