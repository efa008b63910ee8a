-- A script whose lines are carried out in order at a station: the station that an operation finds, and the answer to
-- the operation.
use Rattle.std.specs.Prelude.{ℕ}
use Rattle.tc_cli.specs.Staffed.{Staffed, IsNewlyStaffed, AreAsCounted, IsStaffedAnswer}
use Rattle.tc_rack.specs.Performing.{IsFound, IsLeft, IsOperated}
use Rattle.tc_rack.specs.declared.answer.Answer.{Answer}
use Rattle.tc_rack.specs.declared.operation.Operation.{Operation}
use Rattle.tc_rack.specs.declared.stage.Stage.{Stage}
use Rattle.tc_text.specs.declared.fault.Reason.{Reason}

abbrev pub Session : Type 0
Session = Stage Staffed

-- an operation finds this station, which is new if no operation came before
abbrev pub IsStaffedFound : ℕ → Session → Staffed → Type 0
IsStaffedFound scid session found = IsFound (IsNewlyStaffed scid) session found

-- A refused line leaves the session as it was, unless memory ran out. In that case the session may have the station
-- that the operation found, with the operator's counts as before.
abbrev pub IsSessionLeft : ℕ → Reason → Session → Session → Type 0
IsSessionLeft scid reason old new = IsLeft (IsNewlyStaffed scid) AreAsCounted reason old new

-- an operation is answered at the station that it finds
abbrev pub IsStaffedOperated : ℕ → Operation → Session → Answer → Session → Type 0
IsStaffedOperated scid operation old answer new = IsOperated (IsNewlyStaffed scid) IsStaffedAnswer operation old answer new
