-- The text that a script writes if it is carried out in order: the answers to its lines, and the final report.
use Rattle.std.specs.Prelude.{◌≡◌, ◌⊎◌, ⊤, ℕ, ◌+◌, List, [], ◌∷◌, ◌++◌, Option, IsPermutation, length, Ok}
use Rattle.std.specs.List.{flat_map}
use Rattle.std.specs.Io.KnownBytes.{Appends, Keeps}
use Rattle.tc_channel.specs.Journal.{History}
use Rattle.tc_station.specs.Tally.{IsOurs}
use Rattle.tc_station.specs.Together.{IsCauseAtStation}
use Rattle.tc_text.specs.Reading.{IsFirstLine}
use Rattle.tc_text.specs.Word.{words}
use Rattle.tc_text.specs.Line.{line_of}
use Rattle.tc_text.specs.declared.line.Line.{Line as Said}
use Rattle.tc_text.specs.declared.fault.Reason.TheVariants.{NoMemory}
use Rattle.tc_text.specs.declared.fault.ScriptFault.{ScriptFault}
use Rattle.tc_text.specs.declared.fault.ScriptFault.TheVariants.{Line, Read, TooLong, Write, Unbalanced}
use Rattle.tc_rack.specs.Instruction.{instruction_of}
use Rattle.tc_rack.specs.Phase.{Setup, Does}
use Rattle.tc_cli.specs.Staffed.{Staffed, AllHaveMet}
use Rattle.tc_rack.specs.Printed.{answer_line}
use Rattle.tc_rack.specs.Progress.{Progress, rack_for, IsPerformed}
use Rattle.tc_rack.specs.Rack.{histories}
use Rattle.tc_cli.specs.Report.{IsClosedReport}
use Rattle.tc_rack.specs.Report.{IsReportOf}
use Rattle.tc_cli.specs.Script.{IsBadLine}
use Rattle.tc_cli.specs.Session.{Session, IsStaffedFound, IsStaffedOperated}
use Rattle.tc_rack.specs.Performing.{IsInstructionAnswered}
use Rattle.tc_rack.specs.Stage.{phase_of}
use Rattle.tc_rack.specs.declared.answer.Answer.{Answer}
use Rattle.tc_rack.specs.declared.operation.Operation.{Operation}
use Rattle.tc_rack.specs.declared.stage.Stage.{Stage}
use Rattle.tc_rack.specs.declared.stage.Stage.TheVariants.{SettingUp}

-- the line is good, leads from the first stage to the second, and has this answer
abbrev pub IsLineAnswered : {O : Type 0} → (Operation → Stage O → Answer → Stage O → Type 0) → Stage O → List ℕ → Stage O → Option Answer → Type 0
IsLineAnswered Operates old line new answer =
    (said : Said) × (line_of (words line) ≡ Ok said) × Does (phase_of old) (instruction_of said) (phase_of new)
    × IsInstructionAnswered Operates old (instruction_of said) new answer

-- The first lines of the script are good, and have these answers, one for each line. The lines lead to this stage, and
-- leave these octets.
pub data AreAnswers {O : Type 0} (Operates : Operation → Stage O → Answer → Stage O → Type 0) (script : List ℕ) : List (Option Answer) → Stage O → List ℕ → Type 0 where
  at_first : AreAnswers Operates script [] (SettingUp []) script
  one_more : {answers : List (Option Answer)} {stage new : Stage O} {rest line after : List ℕ} {answer : Option Answer}
      → AreAnswers Operates script answers stage rest → IsFirstLine rest line after → IsLineAnswered Operates stage line new answer
      → AreAnswers Operates script (answers ++ answer ∷ []) new after

-- the text of lines with these answers
abbrev pub answers_text : List (Option Answer) → List ℕ
answers_text answers = flat_map answer_line answers

-- The text is the report at the end of a script with this progress. It covers all channels of the script, each with the
-- journal that the operations made. There is no report if no channel was set up.
abbrev pub IsScriptReport : ℕ → Progress → List ℕ → Type 0
IsScriptReport scid progress text =
    ((phase_of progress ≡ Setup []) × (text ≡ []))
    ⊎ ((channels : List History) × IsPermutation (histories (rack_for scid progress)) channels × IsReportOf channels text)

-- The text is the report at the end of a session. Each watcher met its desk, and then the station was closed together
-- with its operator. There is no report if no channel was set up.
abbrev pub IsSessionReport : ℕ → Session → List ℕ → Type 0
IsSessionReport scid session text =
    ((phase_of session ≡ Setup []) × (text ≡ []))
    ⊎ ((found met : Staffed) × (channels : List History) × IsStaffedFound scid session found × AllHaveMet found met × IsOurs met.station met.operator
    × IsClosedReport met.station (met.operator ∷ []) channels × IsReportOf channels text)

-- at the end of a session, once each watcher has met its desk, the station has a cause of an imbalance
abbrev pub IsSessionUnbalanced : ℕ → Session → Type 0
IsSessionUnbalanced scid session =
    (found met : Staffed) × IsStaffedFound scid session found × AllHaveMet found met × IsCauseAtStation met.station (met.operator ∷ [])

-- this fault leaves a session of `lines` good lines without a report, or with only a part of it
abbrev pub IsReportFault : ℕ → Session → ℕ → ScriptFault → Type 0
IsReportFault scid session lines fault = (fault ≡ Write) ⊎ ((fault ≡ Unbalanced) × IsSessionUnbalanced scid session) ⊎ (fault ≡ Line lines NoMemory)

-- if the octets written so far are known, the report of the session is appended to them
abbrev pub IsSessionReportWritten : ℕ → Session → Option (List ℕ) → Option (List ℕ) → Type 0
IsSessionReportWritten scid session old new = (text : List ℕ) × IsSessionReport scid session text × Appends old new text

-- If the octets written so far are known, the answers to all lines of the script, in order, and then the report are
-- appended to them. Each answer and the report follow from the lines before them, by definitions in which there is no
-- station.
abbrev pub IsScriptWritten : ℕ → List ℕ → Option (List ℕ) → Option (List ℕ) → Type 0
IsScriptWritten scid script old new =
    (answers : List (Option Answer)) × (progress : Progress) × (report : List ℕ) × AreAnswers (IsPerformed scid) script answers progress []
    × IsScriptReport scid progress report × Appends old new (answers_text answers ++ report)

-- The script has a line with this number for which `IsSo` holds. If the octets written so far are known, only the
-- answers to the lines before it are appended to them. Since the station isn't closed, each answer is only known to be
-- an answer at some moment of its channel's desk.
abbrev pub IsWrittenBefore : ℕ → List ℕ → ℕ → (Session → List ℕ → Type 0) → Option (List ℕ) → Option (List ℕ) → Type 0
IsWrittenBefore scid script number IsSo old new =
    (answers : List (Option Answer)) × (session : Session) × (rest : List ℕ) × (line : List ℕ) × (after : List ℕ)
    × AreAnswers (IsStaffedOperated scid) script answers session rest × IsFirstLine rest line after × IsSo session line
    × (number ≡ length answers + 1) × Appends old new (answers_text answers)

-- No report is written. If the octets written so far are known, the answers to all `count` lines are appended to them.
abbrev pub IsScriptUnreported : ℕ → List ℕ → ℕ → Option (List ℕ) → Option (List ℕ) → Type 0
IsScriptUnreported scid script count old new =
    (answers : List (Option Answer)) × (session : Session) × AreAnswers (IsStaffedOperated scid) script answers session [] × (count ≡ length answers)
    × Appends old new (answers_text answers)

-- Memory ran out at the line with this number. The number is 0 if memory ran out before the first line, and the number
-- of the last line if it ran out at the report.
abbrev pub IsOutOfMemory : ℕ → List ℕ → ℕ → Option (List ℕ) → Option (List ℕ) → Type 0
IsOutOfMemory scid script number old new =
    ((number ≡ 0) × Keeps old new) ⊎ IsWrittenBefore scid script number (λ _ _. ⊤) old new ⊎ IsScriptUnreported scid script number old new

-- No report is written, since the station is out of balance. If the octets written so far are known, the answers to all
-- lines are appended to them.
abbrev pub IsScriptUnbalanced : ℕ → List ℕ → Option (List ℕ) → Option (List ℕ) → Type 0
IsScriptUnbalanced scid script old new =
    (answers : List (Option Answer)) × (session : Session) × AreAnswers (IsStaffedOperated scid) script answers session [] × IsSessionUnbalanced scid session
    × Appends old new (answers_text answers)

-- This text was written for a script that ended early. Nothing was written if the script wasn't read. Otherwise the
-- answers to the lines before the one that ended the script were written, or the answers to all lines if the script
-- ended at its report. If writing failed, nothing is stated about the text.
abbrev pub IsScriptCutShort : ℕ → List ℕ → Option (List ℕ) → Option (List ℕ) → ScriptFault → Type 0
IsScriptCutShort scid script old new (Line number reason) =
    ((reason ≡ NoMemory) × IsOutOfMemory scid script number old new)
    ⊎ IsWrittenBefore scid script number (λ session line. IsBadLine (phase_of session) line reason) old new
IsScriptCutShort scid script old new Read = Keeps old new
IsScriptCutShort scid script old new TooLong = Keeps old new
IsScriptCutShort scid script old new Write = Unit {0}
IsScriptCutShort scid script old new Unbalanced = IsScriptUnbalanced scid script old new

-- if the octets written so far are known, the report of the script when its lines are carried out in order is appended
-- to them
abbrev pub IsWrittenInParallel : ℕ → List ℕ → Option (List ℕ) → Option (List ℕ) → Type 0
IsWrittenInParallel scid script old new =
    (answers : List (Option Answer)) × (progress : Progress) × (text : List ℕ) × AreAnswers (IsPerformed scid) script answers progress []
    × IsScriptReport scid progress text × Appends old new text
