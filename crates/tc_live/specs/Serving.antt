-- The text that is written for lines and at the end, and the faults after which a live receiver stops without a report.
use Rattle.std.specs.Prelude.{◌≡◌, ◌⊎◌, ◌++◌, ℕ, List, [], Option, All, IsPermutation}
use Rattle.std.specs.Io.KnownBytes.{Appends, Keeps}
use Rattle.tc_lines.specs.Answering as lines
use Rattle.tc_lines.specs.declared.answering.ServingFault.{ServingFault as AnsweringFault}
use Rattle.tc_lines.specs.declared.answering.ServingFault.TheVariants as answering
use Rattle.tc_text.specs.Word.{words}
use Rattle.tc_text.specs.declared.fault.Reason.{Reason}
use Rattle.tc_text.specs.declared.fault.Reason.TheVariants as reasons
use Rattle.tc_rack.specs.declared.answer.Answer.{Answer}
use Rattle.tc_rack.specs.Delivery.{reported_lines}
use Rattle.tc_live.specs.declared.answer.LiveAnswer.{LiveAnswer}
use Rattle.tc_live.specs.declared.ends.FrameEnds.{FrameEnds}
use Rattle.tc_live.specs.declared.answer.LiveAnswer.TheVariants as reported
use Rattle.tc_live.specs.Printed.{live_text, bad_line_text}
use Rattle.tc_live.specs.Receiver.{Receiving, rack_at, IsDeliveryDone, IsLiveLineAnswered, IsBadLiveLine, IsReceiverLeft}
use Rattle.tc_channel.specs.Journal.{History, IsNumberReported}
use Rattle.tc_rack.specs.Rack.{histories}
use Rattle.tc_rack.specs.Report.{IsReportOf}
use Rattle.tc_live.specs.declared.serving.ServingFault.{ServingFault}
use Rattle.tc_live.specs.declared.serving.ServingFault.TheVariants.{Read, Write, NoMemory, Unbalanced}

-- some channel has had at least 2^64 - 1 events, a number that the final report can't give
abbrev pub IsNumberUnreported : Receiving → Type 0
IsNumberUnreported receiver = ¬ All IsNumberReported (histories (rack_at receiver))

-- this fault leaves no final report, or only a part of it
abbrev pub IsClosingFault : Receiving → ServingFault → Type 0
IsClosingFault receiver fault = (fault ≡ Write) ⊎ (fault ≡ NoMemory) ⊎ ((fault ≡ Unbalanced) × IsNumberUnreported receiver)

-- These answers follow the answer to a line. For a delivery or a collection, they are the answers for the items that
-- are handed on. For any other line, there are none.
abbrev pub IsFollowedBy : LiveAnswer → Receiving → Receiving → List Answer → Type 0
IsFollowedBy (reported.Delivery vcid a) old new answers = IsDeliveryDone old vcid new answers
IsFollowedBy (reported.Collection vcid) old new answers = IsDeliveryDone old vcid new answers
IsFollowedBy _ old new answers = (answers ≡ []) × (new ≡ old)

-- an answer is reported, and then the answers that follow it
abbrev pub IsReported : LiveAnswer → Receiving → Receiving → List ℕ → Type 0
IsReported answer old new text =
    (answers : List Answer) × IsFollowedBy answer old new answers × (text ≡ live_text answer ++ reported_lines answers)

-- a line is carried out, and answered with the text of its answer and of the answers that follow it
abbrev pub IsAnswerSaid : Receiving → List ℕ → Receiving → List ℕ → Type 0
IsAnswerSaid old octets new text =
    (answer : LiveAnswer) × (between : Receiving) × IsLiveLineAnswered old octets between answer × IsReported answer between new text

-- a line is refused, and answered with the reason and a hint on how to mend the line
abbrev pub IsReasonSaid : Receiving → List ℕ → Receiving → List ℕ → Type 0
IsReasonSaid old octets new text =
    (reason : Reason) × ((reason ≡ reasons.NoMemory) ⊎ IsBadLiveLine old octets reason) × IsReceiverLeft reason old new
    × (text ≡ bad_line_text (words octets) reason)

-- a line has this effect on the receiver, and is answered with this text
abbrev pub IsLineSaid : Receiving → List ℕ → Receiving → List ℕ → Type 0
IsLineSaid old octets new text = IsAnswerSaid old octets new text ⊎ IsReasonSaid old octets new text

-- the text is the final report, with each of the receiver's channels once, in rising order of their ids
abbrev pub IsFinalReport : Receiving → List ℕ → Type 0
IsFinalReport receiver text =
    (channels : List History) × IsPermutation (histories (rack_at receiver)) channels × IsReportOf channels text

-- the final report was written
abbrev pub IsReportWritten : Receiving → Option (List ℕ) → Option (List ℕ) → Type 0
IsReportWritten receiver before after = lines.Writes before after (IsFinalReport receiver)

-- the largest number of octets that a line may have, without its line feed
abbrev pub line_limit : ℕ
line_limit = 8192

-- The answers to all lines of these octets were written, in order and each once, and then the final report. The report
-- is about the channels as the last line left them, and `ends` is the record of the ends of frames at that time.
abbrev pub IsReceptionWritten : Receiving → List ℕ → Option (List ℕ) → Option (List ℕ) → FrameEnds → Type 0
IsReceptionWritten receiver octets before after ends =
    (last : Receiving) × (answers : List ℕ) × (report : List ℕ) × lines.AreAnswered line_limit IsLineSaid receiver (lines.lines_of octets) last answers
    × (ends ≡ last.ends) × IsFinalReport last report × Appends before after (answers ++ report)

-- the answers to all lines were written, but no report
abbrev pub IsReportMissing : Receiving → List ℕ → Option (List ℕ) → Option (List ℕ) → Type 0
IsReportMissing receiver octets before after = (last : Receiving) × lines.AreAllWritten line_limit IsLineSaid receiver octets last before after

-- This text was written before an early end. If writing failed, nothing is known about the text.
abbrev pub IsReceptionCutShort : Receiving → List ℕ → Option (List ℕ) → Option (List ℕ) → ServingFault → Type 0
IsReceptionCutShort receiver octets before after Read = (last : Receiving) × lines.AreFirstWritten line_limit IsLineSaid receiver octets last before after
IsReceptionCutShort receiver octets before after Write = Unit {0}
IsReceptionCutShort receiver octets before after NoMemory = Keeps before after ⊎ IsReportMissing receiver octets before after
IsReceptionCutShort receiver octets before after Unbalanced =
    (last : Receiving) × lines.AreAllWritten line_limit IsLineSaid receiver octets last before after × IsNumberUnreported last

-- the receiver's fault for a fault that stopped the answering of lines
abbrev pub fault_at_lines : AnsweringFault → ServingFault
fault_at_lines answering.Read = Read
fault_at_lines answering.Write = Write
fault_at_lines answering.NoMemory = NoMemory
