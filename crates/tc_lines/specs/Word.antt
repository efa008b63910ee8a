-- The words of a line, tests of a word, and results that are computed one after the other.
use Rattle.std.specs.Prelude.{ℕ, Bool, true, false, ◌==◌, ◌||◌, List, [], ◌∷◌, filter, slice_index, nat_eq, Result, Ok, Err}
use Rattle.std.specs.Cmp.Lexicographic.{pointwise}
use Rattle.std.specs.List.{slice_split}

-- whether an octet is a space, a tab or a carriage return
abbrev pub is_separator : ℕ → Bool
is_separator octet = octet == 32 || octet == 9 || octet == 13

abbrev pub is_filled : List ℕ → Bool
is_filled [] = false
is_filled (octet ∷ octets) = true

-- the pieces between separators, without the empty ones
unfoldable pub words : List ℕ → List (List ℕ)
words octets = filter is_filled (slice_split is_separator octets)

-- whether the word is this text
abbrev pub is : List ℕ → List ℕ → Bool
is word text = pointwise nat_eq word text

-- whether the word begins with a number sign, which begins a comment
abbrev pub is_comment : List ℕ → Bool
is_comment word = slice_index word 0 == 35

-- the second result if the first one is `Ok`, and otherwise the error of the first one
abbrev pub after_ok : {A B E : Type 0} → Result A E → (A → Result B E) → Result B E
after_ok (Ok x) next = next x
after_ok (Err reason) next = Err reason
