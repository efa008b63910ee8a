-- Performing the lines of a script in order. At the first operation the channels are created from the set-up. A backend
-- defines which channels are new (`IsNew`), which answers operations have (`Answers`), and in which states channels are
-- left if memory runs out (`Spares`).
use Rattle.std.specs.Prelude.{◌≡◌, ◌⊎◌, List, Option, Some, None}
use Rattle.tc_queues.specs.declared.settings.Settings.{Settings}
use Rattle.tc_rack.specs.declared.instruction.Instruction.{Instruction}
use Rattle.tc_rack.specs.declared.instruction.Instruction.TheVariants.{Nothing, Channel, Add, Frame, Release, Take, Unit as TakeUnit, Clcw}
use Rattle.tc_text.specs.declared.fault.Reason.{Reason}
use Rattle.tc_text.specs.declared.fault.Reason.TheVariants.{NoMemory}
use Rattle.tc_rack.specs.declared.answer.Answer.{Answer}
use Rattle.tc_rack.specs.declared.operation.Operation.{Operation}
use Rattle.tc_rack.specs.declared.operation.Operation.TheVariants as operations
use Rattle.tc_rack.specs.declared.stage.Stage.{Stage}
use Rattle.tc_rack.specs.declared.stage.Stage.TheVariants.{SettingUp, Operating}

-- an operation finds these channels: those in operation, or new ones if no operation came before
abbrev pub IsFound : {O : Type 0} → (List Settings → O → Type 0) → Stage O → O → Type 0
IsFound IsNew (SettingUp list) found = IsNew list found
IsFound IsNew (Operating there) found = found ≡ there

-- A refused line leaves everything as it was, unless memory runs out. In that case the channels that the operation
-- found may be in operation afterwards, in any state that the backend allows.
abbrev pub IsLeft : {O : Type 0} → (List Settings → O → Type 0) → (O → O → Type 0) → Reason → Stage O → Stage O → Type 0
IsLeft {O} IsNew Spares reason old new =
    (new ≡ old) ⊎ ((reason ≡ NoMemory) × (found after : O) × IsFound IsNew old found × Spares found after × (new ≡ Operating after))

-- an operation is answered by the channels that it finds
abbrev pub IsOperated : {O : Type 0} → (List Settings → O → Type 0) → (Operation → O → Answer → O → Type 0) → Operation → Stage O → Answer → Stage O → Type 0
IsOperated {O} IsNew Answers operation old answer new =
    (found after : O) × IsFound IsNew old found × Answers operation found answer after × (new ≡ Operating after)

-- the operation has an answer, which this relation allows between the stage before and the stage after
abbrev pub IsDoneSo : {O : Type 0} → (Operation → Stage O → Answer → Stage O → Type 0) → Operation → Stage O → Option Answer → Stage O → Type 0
IsDoneSo Operates operation old answer new = (a : Answer) × Operates operation old a new × (answer ≡ Some a)

-- An operation gets its answer, and any other line gets none. A blank line leaves everything as it is.
abbrev pub IsInstructionAnswered : {O : Type 0} → (Operation → Stage O → Answer → Stage O → Type 0) → Stage O → Instruction → Stage O → Option Answer → Type 0
IsInstructionAnswered Operates old Nothing new answer = (answer ≡ None) × (new ≡ old)
IsInstructionAnswered Operates old (Channel settings) new answer = answer ≡ None
IsInstructionAnswered Operates old (Add vcid addition) new answer = answer ≡ None
IsInstructionAnswered Operates old (Frame octets) new answer = IsDoneSo Operates (operations.Frame octets) old answer new
IsInstructionAnswered Operates old (Release vcid) new answer = IsDoneSo Operates (operations.Release vcid) old answer new
IsInstructionAnswered Operates old (Take vcid apid) new answer = IsDoneSo Operates (operations.Take vcid apid) old answer new
IsInstructionAnswered Operates old (TakeUnit vcid map_id) new answer = IsDoneSo Operates (operations.Unit vcid map_id) old answer new
IsInstructionAnswered Operates old (Clcw vcid) new answer = IsDoneSo Operates (operations.Clcw vcid) old answer new
