-- The number of words that a command takes.
use Rattle.std.proofs.Common.{◌≡◌, ◌≢◌, ℕ, List, [], ◌∷◌, Err, refl}
use Rattle.tc_text.specs.Line.{three_of}
use Rattle.tc_text.specs.declared.fault.Reason.TheVariants.{WordCount}

-- if more than three words follow a command that takes three, the number of words is wrong
pub three-more : (first second third : List ℕ) (rest : List (List ℕ)) → rest ≢ [] → three_of (first ∷ second ∷ third ∷ rest) ≡ Err WordCount
three-more first second third [] h = absurd (h refl)
three-more first second third (more ∷ rest) h = refl
