-- A receiver that carries out lines: the effect and the answer of a line, and the reasons why a line is bad.
use Rattle.std.specs.Prelude.{◌≡◌, ◌⊎◌, Bool, true, false, ℕ, List, [], Option, Some, None, Ok, Err}
use Rattle.tc_link.specs.declared.clcw.Link.{Link}
use Rattle.tc_text.specs.Word.{words}
use Rattle.tc_text.specs.Line.{line_of}
use Rattle.tc_text.specs.LiveLine.{live_line_of}
use Rattle.tc_text.specs.declared.fault.Reason.{Reason}
use Rattle.tc_text.specs.declared.fault.Reason.TheVariants.{NoMemory}
use Rattle.tc_text.specs.declared.line.Line.{Line}
use Rattle.tc_text.specs.declared.live.LiveLine.{LiveLine}
use Rattle.tc_text.specs.declared.live.LiveLine.TheVariants.{Script, Link as LinkOf, Report, Deliver, Collect, Candidate}
use Rattle.tc_channel.specs.declared.holding.Holding.{Holding}
use Rattle.tc_rack.specs.Instruction.{instruction_of}
use Rattle.tc_rack.specs.Phase.{Does, IsBad, IsBadOperation, Operates, Operation as InOperation}
use Rattle.tc_rack.specs.declared.instruction.Instruction.{Instruction}
use Rattle.tc_rack.specs.Stage.{phase_of}
use Rattle.tc_rack.specs.declared.answer.Answer.{Answer}
use Rattle.tc_rack.specs.declared.stage.Stage.{Stage}
use Rattle.tc_rack.specs.declared.stage.Stage.TheVariants.{SettingUp, Operating}
use Rattle.tc_rack.specs.Performing.{IsInstructionAnswered}
use Rattle.tc_rack.specs.Progress.{IsPerformed, rack_for}
use Rattle.tc_rack.specs.Rack.{Racked, IsLinkSet, IsReported}
use Rattle.tc_rack.specs.Operation.{IsAnswerOf, IsClcwAnswer}
use Rattle.tc_rack.specs.Delivery.{IsDeliveryEnded}
use Rattle.tc_rack.specs.declared.operation.Operation.TheVariants as operations
use Rattle.tc_rack.specs.declared.answer.Answer.TheVariants.{Refused}
use Rattle.tc_live.specs.Check.{IsPassed, FailsCheck, IsCandidatePassed, FailsCandidate, CarriesMore}
use Rattle.tc_live.specs.declared.answer.LiveAnswer.{LiveAnswer}
use Rattle.tc_live.specs.declared.answer.LiveAnswer.TheVariants as reported
use Rattle.tc_live.specs.declared.check.FrameCheck.{FrameCheck}
use Rattle.tc_live.specs.declared.ends.FrameEnds.{FrameEnds}
use Rattle.tc_live.specs.declared.ends.FrameEnds.TheVariants.{NoFrame}
use Rattle.tc_live.specs.Ends.{ends_behind}

-- The state of a receiver. `check` is the check that octets must pass. `ends` is the record of the ends of unchecked
-- frames. `stage` has the channels, which are set up so far or in operation.
pub record Receiving : Type 0 where
  pub check : FrameCheck
  pub ends : FrameEnds
  pub scid : ℕ
  pub stage : Stage Racked

-- a receiver for which nothing is set up
abbrev pub new_receiver : FrameCheck → ℕ → Receiving
new_receiver check scid = record { check = check; ends = NoFrame; scid = scid; stage = SettingUp [] }

-- the channels that operations find
abbrev pub rack_at : Receiving → Racked
rack_at receiver = rack_for receiver.scid receiver.stage

-- the receiver with these channels, and otherwise as before
abbrev pub with_rack : Racked → Receiving → Receiving
with_rack rack receiver = record receiver { stage = Operating rack }

-- the receiver after an operation that changes no channel
abbrev pub begun : Receiving → Receiving
begun receiver = with_rack (rack_at receiver) receiver

-- an operation's answer as the answer to a line, or no text if there is no answer
abbrev pub script_answer : Option Answer → LiveAnswer
script_answer None = reported.Nothing
script_answer (Some answer) = reported.Operation answer

-- The receiver carries out an instruction of a script. If the instruction is an operation, its answer is reported.
-- Nothing but the stage, which has the channels, changes.
abbrev pub IsInstructed : Receiving → Instruction → Receiving → LiveAnswer → Type 0
IsInstructed old instruction new answer =
    (a : Option Answer) × IsInstructionAnswered (IsPerformed old.scid) old.stage instruction new.stage a
    × (answer ≡ script_answer a) × (new ≡ record old { stage = new.stage })

-- the receiver carries out a line of a script that passed the check
abbrev pub IsPassedDone : Receiving → Line → Receiving → LiveAnswer → Type 0
IsPassedDone old passed new answer =
    IsInstructed old (instruction_of passed) new answer × Does (phase_of old.stage) (instruction_of passed) (phase_of new.stage)

-- a line that passed the check is carried out, and the record of the ends of frames is continued
abbrev pub IsNoted : Receiving → Line → Line → Receiving → LiveAnswer → Type 0
IsNoted old line passed new answer =
    (done : Receiving) × IsPassedDone old passed done answer × (new ≡ record done { ends = ends_behind old.check old.ends line })

-- Either the line passes the check and is carried out, or it doesn't pass and nothing changes.
abbrev pub IsScriptDone : Receiving → Line → Receiving → LiveAnswer → Type 0
IsScriptDone old line new answer =
    ((passed : Line) × IsPassed old.check line passed × IsNoted old line passed new answer)
    ⊎ (FailsCheck old.check line × (answer ≡ reported.Unchecked) × (new ≡ old))

-- A candidate in which more than fill follows the frame changes nothing. Any other candidate is carried out if it
-- passes the check.
abbrev pub IsCandidateDone : Receiving → List ℕ → Receiving → LiveAnswer → Type 0
IsCandidateDone old octets new answer =
    (CarriesMore octets × (answer ≡ reported.More) × (new ≡ old))
    ⊎ ((¬ CarriesMore octets) × (((passed : Line) × IsCandidatePassed old.check octets passed × IsPassedDone old passed new answer)
    ⊎ (FailsCandidate old.check octets × (answer ≡ reported.Unchecked) × (new ≡ old))))

-- A refused line leaves the receiver as it was. If memory ran out, the receiver may also have the channels that were
-- created for the line.
abbrev pub IsReceiverLeft : Reason → Receiving → Receiving → Type 0
IsReceiverLeft reason old new = (new ≡ old) ⊎ ((reason ≡ NoMemory) × (new ≡ begun old))

abbrev pub link_answer : Bool → ℕ → Link → LiveAnswer
link_answer true vcid link = reported.Link vcid link
link_answer false vcid link = reported.UnknownChannel

-- the flags of a channel's link are set and reported, or the answer reports that there is no such channel
abbrev pub IsLinked : Receiving → ℕ → Link → Receiving → LiveAnswer → Type 0
IsLinked old vcid link new answer =
    (known : Bool) × (rack : Racked) × IsLinkSet (rack_at old) vcid link known rack
    × (answer ≡ link_answer known vcid link) × (new ≡ with_rack rack old)

abbrev pub report_answer : ℕ → Option Holding → LiveAnswer
report_answer vcid None = reported.UnknownChannel
report_answer vcid (Some holding) = reported.Report vcid holding

-- the state of a channel is reported, or the answer reports that there is no such channel
abbrev pub IsReportDone : Receiving → ℕ → Receiving → LiveAnswer → Type 0
IsReportDone old vcid new answer =
    (found : Option Holding) × IsReported (rack_at old) vcid found × (answer ≡ report_answer vcid found) × (new ≡ begun old)

-- a delivery begins with a release, whose answer is reported
abbrev pub IsDeliveryBegun : Receiving → ℕ → Receiving → LiveAnswer → Type 0
IsDeliveryBegun old vcid new answer =
    (a : Answer) × (rack : Racked) × IsAnswerOf (operations.Release vcid) (rack_at old) a rack
    × (answer ≡ reported.Delivery vcid a) × (new ≡ with_rack rack old)

-- The answer that begins a collection. The channel's CLCW was requested, and a refusal shows that there is no such
-- channel.
abbrev pub collection_answer : ℕ → Answer → LiveAnswer
collection_answer vcid (Refused refusal) = reported.UnknownChannel
collection_answer vcid _ = reported.Collection vcid

abbrev pub IsCollectionBegun : Receiving → ℕ → Receiving → LiveAnswer → Type 0
IsCollectionBegun old vcid new answer =
    (a : Answer) × IsClcwAnswer vcid (rack_at old) a × (answer ≡ collection_answer vcid a) × (new ≡ begun old)

-- all items that wait in the channel are handed on, with these answers, or there is no such channel and no answer
abbrev pub IsDeliveryDone : Receiving → ℕ → Receiving → List Answer → Type 0
IsDeliveryDone old vcid new answers = (rack : Racked) × IsDeliveryEnded vcid (rack_at old) answers rack × (new ≡ with_rack rack old)

-- a good line has this effect and this answer
abbrev pub IsLineDone : Receiving → LiveLine → Receiving → LiveAnswer → Type 0
IsLineDone old (Script line) new answer = IsScriptDone old line new answer
IsLineDone old (LinkOf vcid link) new answer = IsLinked old vcid link new answer × Operates (phase_of old.stage) (phase_of new.stage)
IsLineDone old (Report vcid) new answer = IsReportDone old vcid new answer × Operates (phase_of old.stage) (phase_of new.stage)
IsLineDone old (Deliver vcid) new answer = IsDeliveryBegun old vcid new answer × Operates (phase_of old.stage) (phase_of new.stage)
IsLineDone old (Collect vcid) new answer = IsCollectionBegun old vcid new answer × Operates (phase_of old.stage) (phase_of new.stage)
IsLineDone old (Candidate octets) new answer = IsCandidateDone old octets new answer

-- the line can be parsed, and has this effect and this answer
abbrev pub IsLiveLineAnswered : Receiving → List ℕ → Receiving → LiveAnswer → Type 0
IsLiveLineAnswered old octets new answer = (said : LiveLine) × (live_line_of (words octets) ≡ Ok said) × IsLineDone old said new answer

-- this is a reason why a line of a script that passed the check is bad
abbrev pub IsBadScript : Receiving → Line → Reason → Type 0
IsBadScript old line reason = (passed : Line) × IsPassed old.check line passed × IsBad (phase_of old.stage) (instruction_of passed) reason

-- this is a reason why a candidate that passed the check is bad
abbrev pub IsBadCandidate : Receiving → List ℕ → Reason → Type 0
IsBadCandidate old octets reason = (passed : Line) × IsCandidatePassed old.check octets passed × IsBad (phase_of old.stage) (instruction_of passed) reason

-- this is a reason, other than lack of memory, why a parsed line is bad
abbrev pub IsBadSaying : Receiving → LiveLine → Reason → Type 0
IsBadSaying old (Script line) reason = IsBadScript old line reason
IsBadSaying old (Candidate octets) reason = IsBadCandidate old octets reason
IsBadSaying old _ reason = IsBadOperation (phase_of old.stage) reason

abbrev pub IsBadLiveLine : Receiving → List ℕ → Reason → Type 0
IsBadLiveLine old octets reason =
    (live_line_of (words octets) ≡ Err reason) ⊎ ((said : LiveLine) × (live_line_of (words octets) ≡ Ok said) × IsBadSaying old said reason)

-- if the answer begins a delivery or a collection, the channels are in operation
abbrev pub IsReady : LiveAnswer → Receiving → Type 0
IsReady (reported.Delivery vcid a) receiver = phase_of receiver.stage ≡ InOperation
IsReady (reported.Collection vcid) receiver = phase_of receiver.stage ≡ InOperation
IsReady _ receiver = Unit {0}

-- the line can be parsed as a line of a script, and has this effect and this answer
abbrev pub IsScriptLineAnswered : Receiving → List ℕ → Receiving → LiveAnswer → Type 0
IsScriptLineAnswered old octets new answer = (said : Line) × (line_of (words octets) ≡ Ok said) × IsScriptDone old said new answer

-- This is a reason, other than lack of memory, why a line of a script is bad. The line can't be parsed, or can't be
-- carried out.
abbrev pub IsBadScriptLine : Receiving → List ℕ → Reason → Type 0
IsBadScriptLine old octets reason =
    (line_of (words octets) ≡ Err reason) ⊎ ((said : Line) × (line_of (words octets) ≡ Ok said) × IsBadScript old said reason)
