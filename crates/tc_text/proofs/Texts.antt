-- The comparison of a word with a text, octet by octet.
use Rattle.std.proofs.Common.{◌≡◌, ◌<◌, ℕ, true, List, length, get_or, sym, arith}
use Rattle.std.proofs.lemmas.List.{ext_get_or}
use Rattle.std.proofs.lemmas.Slice.Eq.{bytes_eq-Decides}
use Rattle.tc_lines.specs.Word.{is}

-- if a word and a text have the same length and the same octets, the word is the text
pub is-text : (word text : List ℕ) → length word ≡ length text → ((place : ℕ) → place < length text → get_or word place 0 ≡ get_or text place 0)
    → true ≡ is word text
is-text word text size same =
    sym ((bytes_eq-Decides word text).1 (ext_get_or 0 word text size (λ place lt. same place (omega (arith, lt, size)))))
