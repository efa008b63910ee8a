-- The phase that a stage stands for, and the stage after a refused line.
use Rattle.std.specs.Prelude.{◌≡◌, ◌≢◌, ◌⊎◌}
use Rattle.tc_rack.specs.Phase.{Phase, Setup, Operation}
use Rattle.tc_rack.specs.declared.stage.Stage.{Stage}
use Rattle.tc_rack.specs.declared.stage.Stage.TheVariants.{SettingUp, Operating}
use Rattle.tc_text.specs.declared.fault.Reason.{Reason}
use Rattle.tc_text.specs.declared.fault.Reason.TheVariants.{NoMemory}

abbrev pub phase_of : {O : Type 0} → Stage O → Phase
phase_of (SettingUp list) = Setup list
phase_of (Operating operating) = Operation

-- a line that is refused for this reason leaves everything as it is, unless memory ran out before the channels were in
-- operation
abbrev pub IsStageKept : {O : Type 0} → Reason → Stage O → Stage O → Type 0
IsStageKept reason old new = (new ≡ old) ⊎ ((reason ≡ NoMemory) × (phase_of old ≢ Operation))
