use Rattle.tc_lines.proofs.Lines.{IsSoFar}
use Rattle.tc_lines.proofs.answering.answer_lines.Given as goal

-- the lines that were read so far were answered
abbrev pub invariant-loop-line : goal.invariant-loop-line
invariant-loop-line g l = IsSoFar l.limit g.A.LineAnswerer.answers l.initial.answerer (g.R.Read.remaining l.initial.reader) l.answerer (g.R.Read.remaining l.reader) (g.W.Write.contents l.initial.writer) (g.W.Write.contents l.writer)
