-- The effect of a script's operation on the channels that it finds.
use Rattle.tc_rack.proofs.Names.{◌≡◌, ℕ, refl, subst, Racked, Answer}
use Rattle.tc_rack.specs.Operation.{IsAnswerOf}
use Rattle.tc_rack.specs.Performing.{IsFound}
use Rattle.tc_rack.specs.Progress.{Progress, IsNewRack, IsPerformed, rack_for}
use Rattle.tc_rack.specs.declared.operation.Operation.{Operation}
use Rattle.tc_rack.specs.declared.stage.Stage.TheVariants.{SettingUp, Operating}

pub rack-found : (scid : ℕ) (progress : Progress) → IsFound (IsNewRack scid) progress (rack_for scid progress)
rack-found scid (SettingUp list) = refl
rack-found scid (Operating rack) = refl

pub found-is : (scid : ℕ) (progress : Progress) (found : Racked) → IsFound (IsNewRack scid) progress found → found ≡ rack_for scid progress
found-is scid (SettingUp list) found is = is
found-is scid (Operating rack) found is = is

pub performed-at : (scid : ℕ) (operation : Operation) (old new : Progress) (answer : Answer) → IsPerformed scid operation old answer new
    → (rack : Racked) × IsAnswerOf operation (rack_for scid old) answer rack × (new ≡ Operating rack)
performed-at scid operation old new answer (found, rack, at, answered, is) =
    (rack, subst (λ (r : Racked). IsAnswerOf operation r answer rack) (found-is scid old found at) answered, is)
