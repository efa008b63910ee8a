use Rattle.tc_make.proofs.Written.{Before}
use Rattle.tc_make.proofs.answer.write_parts.Given as goal

abbrev pub invariant-loop-place : goal.invariant-loop-place
invariant-loop-place g l = Before l.fn.ending l.fn.parting l.place (g.W.Write.contents l.initial.writer) (g.W.Write.contents l.writer)
