-- Answers to operations, as text. They are shown in docs/reference/scripts.md, under "Answers".
use Rattle.std.specs.Prelude.{ℕ, List, [], ◌++◌, Option, Some, None, codes, decimal}
use Rattle.tc_link.specs.declared.frame.FrameFault.{FrameFault}
use Rattle.tc_link.specs.declared.frame.FrameFault.TheVariants.{Short, Version, Spare, LengthSmall, Truncated}
use Rattle.tc_link.specs.declared.location.LocateFault.TheVariants as locations
use Rattle.tc_text.specs.Printed.{octets_text, unit_text, word_text, flag_text, delivery_text}
use Rattle.tc_rack.specs.declared.answer.Refusal.{Refusal}
use Rattle.tc_rack.specs.declared.answer.Refusal.TheVariants.{Unlocated, UnknownChannel, NoQueue, NoMap, Empty}
use Rattle.tc_rack.specs.declared.answer.Answer.{Answer}
use Rattle.tc_rack.specs.declared.answer.Answer.TheVariants.{Frame, Release, Take, Unit as TakeUnit, Clcw, Refused}

-- the word for the reason why octets don't begin with a frame
abbrev pub frame_fault_text : FrameFault → List ℕ
frame_fault_text Short = codes "short"
frame_fault_text Version = codes "version"
frame_fault_text Spare = codes "spare"
frame_fault_text LengthSmall = codes "length"
frame_fault_text Truncated = codes "truncated"

-- the words for the reason why an operation is refused
abbrev pub refusal_text : Refusal → List ℕ
refusal_text (Unlocated (locations.Frame fault)) = frame_fault_text fault
refusal_text (Unlocated locations.OtherSpacecraft) = codes "spacecraft"
refusal_text (Unlocated locations.UnknownChannel) = codes "channel"
refusal_text UnknownChannel = codes "channel"
refusal_text NoQueue = codes "no queue"
refusal_text NoMap = codes "no map"
refusal_text Empty = codes "empty"

-- the text of the answer to an operation
abbrev pub answer_text : Answer → List ℕ
answer_text (Frame vcid reply) =
    codes "frame " ++ decimal vcid ++ codes " E" ++ decimal reply.act.event ++ codes " accepted " ++ flag_text reply.act.accepted
    ++ codes " " ++ delivery_text reply.delivery
answer_text (Release vcid delivery) = codes "release " ++ decimal vcid ++ codes " " ++ delivery_text delivery
answer_text (Take vcid apid packet) = codes "take " ++ decimal vcid ++ codes " " ++ decimal apid ++ codes " " ++ octets_text packet
answer_text (TakeUnit vcid map_id unit) = codes "unit " ++ decimal vcid ++ codes " " ++ decimal map_id ++ codes " " ++ unit_text unit
answer_text (Clcw vcid word) = codes "clcw " ++ decimal vcid ++ codes " " ++ word_text word
answer_text (Refused refusal) = codes "refused " ++ refusal_text refusal

-- the text that a line of a script writes: its answer with a line feed, or nothing
abbrev pub answer_line : Option Answer → List ℕ
answer_line None = []
answer_line (Some answer) = answer_text answer ++ codes "\n"
