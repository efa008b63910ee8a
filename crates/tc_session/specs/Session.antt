-- The texts with which a session answers a line and the end of the lines, by the definitions of tclive, tcrx and
-- tcmake.
use Rattle.std.specs.Prelude.{◌≡◌, ◌≢◌, ◌⊎◌, ◌++◌, ◌+◌, ◌-◌, ◌^◌, min, ℕ, Bool, true, false, List, [], Option, Some, None, codes}
use Rattle.tc_lines.specs.Answering.{IsAnswered}
use Rattle.tc_text.specs.Printed.{fault_text}
use Rattle.tc_text.specs.declared.fault.Reason.{Reason}
use Rattle.tc_text.specs.declared.fault.Reason.TheVariants.{NoMemory}
use Rattle.tc_text.specs.declared.fault.ScriptFault.{ScriptFault}
use Rattle.tc_text.specs.declared.fault.ScriptFault.TheVariants as faults
use Rattle.tc_live.specs.Printed.{live_text, serving_fault_text}
use Rattle.tc_live.specs.Receiver.{Receiving, IsScriptLineAnswered, IsBadScriptLine, IsReceiverLeft}
use Rattle.tc_live.specs.Serving.{IsClosingFault, IsFinalReport, IsLineSaid, line_limit}
use Rattle.tc_live.specs.declared.answer.LiveAnswer.{LiveAnswer}
use Rattle.tc_live.specs.declared.ends.FrameEnds.{FrameEnds}
use Rattle.tc_live.specs.declared.ends.FrameEnds.TheVariants.{NoFrame}
use Rattle.tc_live.specs.declared.serving.ServingFault.{ServingFault}
use Rattle.tc_live.specs.declared.serving.ServingFault.TheVariants as closing
use Rattle.tc_make.specs.Serving as make
use Rattle.tc_make.specs.declared.maker.Maker.{Maker}
use Rattle.tc_session.specs.declared.engine.Engine.{Engine}
use Rattle.tc_session.specs.declared.engine.Engine.TheVariants.{Live, Script, Make, Ended}
use Rattle.tc_session.specs.declared.session.Said.{Said}
use Rattle.tc_session.specs.declared.session.Said.TheVariants as said
use Rattle.tc_session.specs.declared.session.Session.{Session}

abbrev pub has_ended : Engine → Bool
has_ended (Live receiver) = false
has_ended (Script receiver lines) = false
has_ended (Make maker) = false
has_ended Ended = true

-- If the flag is set, the line of a script is good, and is carried out and answered. Otherwise the script ends at the
-- line, and the text is the reason.
abbrev pub IsScriptLineSaid : Bool → ℕ → Receiving → List ℕ → Receiving → List ℕ → Type 0
IsScriptLineSaid true number old line new text = (answer : LiveAnswer) × IsScriptLineAnswered old line new answer × (text ≡ live_text answer)
IsScriptLineSaid false number old line new text =
    (reason : Reason) × ((reason ≡ NoMemory) ⊎ IsBadScriptLine old line reason) × IsReceiverLeft reason old new
    × (text ≡ fault_text (faults.Line number reason) ++ codes "\n")

-- This is the effect of a line on an engine, with the text of the answer. The flag is clear if and only if a script
-- ends at the line.
abbrev pub IsEngineSaid : Bool → Engine → List ℕ → Engine → List ℕ → Type 0
IsEngineSaid good (Live old) line new text = (good ≡ true) × ((after : Receiving) × IsAnswered line_limit IsLineSaid old line after text × (new ≡ Live after))
IsEngineSaid good (Script old lines) line new text =
    (after : Receiving) × IsScriptLineSaid good (min (lines + 1) (2 ^ 32 - 1)) old line after text × (new ≡ Script after (min (lines + 1) (2 ^ 32 - 1)))
IsEngineSaid good (Make old) line new text = (good ≡ true) × ((after : Maker) × IsAnswered make.limit make.IsMakerAnswered old line after text × (new ≡ Make after))
IsEngineSaid good Ended line new text = ⊥

-- This is the outcome of a line. The line was answered, or it ended a script, and the text is the reason. If memory ran
-- out, either nothing was done, or the answer was lost and the lines have ended. If the lines had already ended,
-- nothing was done.
abbrev pub IsSaid : Said → Engine → List ℕ → Engine → List ℕ → Type 0
IsSaid said.Done old line new text = IsEngineSaid true old line new text
IsSaid said.Bad old line new text = ((left : Engine) × IsEngineSaid false old line left text) × (new ≡ Ended)
IsSaid said.NoMemory old line new text = (new ≡ old) × (text ≡ [])
IsSaid said.Lost old line new text = (has_ended old ≡ false) × (new ≡ Ended)
IsSaid said.Over old line new text = (old ≡ Ended) × (new ≡ Ended) × (text ≡ [])

-- the fault that a script with this number of lines reports for a fault at its end
abbrev pub script_fault : ℕ → ServingFault → ScriptFault
script_fault lines closing.Unbalanced = faults.Unbalanced
script_fault lines closing.Read = faults.Line lines NoMemory
script_fault lines closing.Write = faults.Line lines NoMemory
script_fault lines closing.NoMemory = faults.Line lines NoMemory

-- the text of the reason why there is no final report: in the words of tcrx for a script, which has this number of
-- lines, and in the words of tclive if there is no number
abbrev pub closing_text : Option ℕ → ServingFault → List ℕ
closing_text None fault = serving_fault_text fault ++ codes "\n"
closing_text (Some lines) fault = fault_text (script_fault lines fault) ++ codes "\n"

-- The receiver was closed. The text is its final report, or the reason why there is none. If the text was lost, nothing
-- is stated about it.
abbrev pub IsClosed : Said → Receiving → Option ℕ → List ℕ → Type 0
IsClosed said.Done receiver lines text = IsFinalReport receiver text
IsClosed said.Bad receiver lines text = (fault : ServingFault) × IsClosingFault receiver fault × (fault ≢ closing.Write) × (text ≡ closing_text lines fault)
IsClosed said.Lost receiver lines text = Unit {0}
IsClosed _ receiver lines text = ⊥

-- the lines of this engine ended, with this outcome and this text
abbrev pub IsEngineEnded : Said → Engine → List ℕ → Type 0
IsEngineEnded outcome (Live receiver) text = IsClosed outcome receiver None text
IsEngineEnded outcome (Script receiver lines) text = IsClosed outcome receiver (Some lines) text
IsEngineEnded outcome (Make maker) text = (outcome ≡ said.Done) × (text ≡ [])
IsEngineEnded outcome Ended text = ⊥

-- This is the outcome of the end of the lines. Afterwards the lines have ended, unless memory ran out before anything
-- was done.
abbrev pub IsEnded : Said → Engine → Engine → List ℕ → Type 0
IsEnded said.NoMemory old new text = (new ≡ old) × (text ≡ [])
IsEnded said.Over old new text = (old ≡ Ended) × (new ≡ Ended) × (text ≡ [])
IsEnded said.Done old new text = IsEngineEnded said.Done old text × (new ≡ Ended)
IsEnded said.Bad old new text = IsEngineEnded said.Bad old text × (new ≡ Ended)
IsEnded said.Lost old new text = IsEngineEnded said.Lost old text × (new ≡ Ended)

-- The record of whether the frames of all lines so far ended with a frame error control field. A maker keeps none. Once
-- the lines have ended, this is the record that was left.
abbrev pub ends_at : Engine → FrameEnds → FrameEnds
ends_at (Live receiver) left = receiver.ends
ends_at (Script receiver lines) left = receiver.ends
ends_at (Make maker) left = NoFrame
ends_at Ended left = left

abbrev pub ends_of : Session → FrameEnds
ends_of session = ends_at session.engine session.ends
