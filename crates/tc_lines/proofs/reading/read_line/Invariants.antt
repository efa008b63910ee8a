use Rattle.tc_lines.proofs.Parts.{IsLineSoFar}
use Rattle.tc_lines.proofs.reading.read_line.Given as goal

-- the octets of the line so far were taken from the reader, and the first `limit` of them are kept
abbrev pub invariant-loop-part : goal.invariant-loop-part
invariant-loop-part g l = IsLineSoFar l.limit (g.R.Read.remaining l.initial.reader) (g.R.Read.remaining l.reader) l.line.items l.too_long
