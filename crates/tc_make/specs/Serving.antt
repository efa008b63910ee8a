-- The answers to all lines, in order, and the text that was written before an early end.
use Rattle.std.specs.Prelude.{ℕ, List, Option}
use Rattle.tc_lines.specs.Answering as lines
use Rattle.tc_lines.specs.declared.answering.ServingFault.{ServingFault}
use Rattle.tc_make.specs.Answer.{IsAnswer}
use Rattle.tc_make.specs.Line.{maker_line_of}
use Rattle.tc_lines.specs.Word.{words}
use Rattle.tc_make.specs.Making.{new_maker}
use Rattle.tc_make.specs.declared.ending.Ending.{Ending}
use Rattle.tc_make.specs.declared.maker.Maker.{Maker}

-- the largest number of octets that a line may have, without its line feed
abbrev pub limit : ℕ
limit = 262143

-- `text` is the answer to the line in the state `old`, and `new` is the state after the line
abbrev pub IsMakerAnswered : Maker → List ℕ → Maker → List ℕ → Type 0
IsMakerAnswered old line new text = IsAnswer old (maker_line_of (words line)) new text

-- the answers to all lines of the octets were written, in order and each once, starting in the state of a new maker
abbrev pub AreWritten : Ending → List ℕ → Option (List ℕ) → Option (List ℕ) → Type 0
AreWritten ending octets before after = (last : Maker) × lines.AreAllWritten limit IsMakerAnswered (new_maker ending) octets last before after

-- A fault ended the answers early. After a failed read, the answers to some first lines were written. Without memory,
-- nothing was written. After a failed write, nothing is stated.
abbrev pub IsMakingCutShort : Ending → List ℕ → Option (List ℕ) → Option (List ℕ) → ServingFault → Type 0
IsMakingCutShort ending octets before after fault = (last : Maker) × lines.IsCutShort limit IsMakerAnswered (new_maker ending) octets last before after fault
