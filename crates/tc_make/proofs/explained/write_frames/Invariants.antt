use Rattle.tc_make.proofs.Written.{Found}
use Rattle.tc_make.proofs.explained.write_frames.Given as goal

abbrev pub invariant-loop : goal.invariant-loop
invariant-loop g l = Found l.fn.octets l.counter l.rest (g.W.Write.contents l.initial.writer) (g.W.Write.contents l.writer)
