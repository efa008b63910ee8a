-- Hints for lines that lack the words of some numbers.
use Rattle.tc_live.proofs.Names.{◌≡◌, List, [], ◌∷◌, None, refl, first_misfit}
use Rattle.tc_live.specs.declared.hint.Number.{Number}

-- if no words remain, no number has a wrong word
pub none_left : (numbers : List Number) → first_misfit numbers [] ≡ None
none_left [] = refl
none_left (number ∷ numbers) = refl
