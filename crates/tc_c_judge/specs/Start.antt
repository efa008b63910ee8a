-- Why no judge is created.
use Rattle.std.specs.Prelude.{◌≡◌, Result, Ok, Err}
use Rattle.tc_c_base.specs.declared.status.Status.{Status}
use Rattle.tc_c_base.specs.declared.status.Status.TheVariants.{NoMemory}

-- the reason why no judge is created: the fault of the settings, or too little memory if they have none
abbrev pub IsReasonForNone : {A : Type 0} → Result A Status → Status → Type 0
IsReasonForNone (Ok settings) fault = fault ≡ NoMemory
IsReasonForNone (Err reason) fault = fault ≡ reason
