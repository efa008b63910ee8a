-- Decimal numbers of 1 to 5 digits.
use Rattle.std.specs.Prelude.{ℕ, ◌+◌, ◌-◌, ◌*◌, Bool, ◌&&◌, List, length, Option, Some, None, nat_le, fold, if◌then◌else◌}
use Rattle.std.specs.List.{list_all}
use Rattle.std.specs.Option.{option_and_then}

abbrev pub is_digit : ℕ → Bool
is_digit octet = nat_le 48 octet && nat_le octet 57

-- the number with one more digit after it, where `digit` is the octet of the digit
abbrev pub with_digit : ℕ → ℕ → ℕ
with_digit number digit = number * 10 + (digit - 48)

-- the number that digits spell, the most significant digit first
abbrev pub spelled_number : List ℕ → ℕ
spelled_number digits = fold with_digit 0 digits

abbrev pub decimal_of : List ℕ → Option ℕ
decimal_of word =
    if nat_le 1 (length word) && nat_le (length word) 5 && list_all is_digit word then Some (spelled_number word) else None

abbrev pub if_at_most : ℕ → ℕ → Option ℕ
if_at_most most number = if nat_le number most then Some number else None

-- the number that a word spells, if it spells one within its bound
abbrev pub word_number : ℕ → List ℕ → Option ℕ
word_number most word = option_and_then (if_at_most most) (decimal_of word)
