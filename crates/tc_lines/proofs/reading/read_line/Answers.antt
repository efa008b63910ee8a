use Rattle.std.proofs.lemmas.Bool.{not-true, not-false}
use Rattle.tc_lines.proofs.Parts.{part-more, last-part}
use Rattle.tc_lines.proofs.reading.read_line.Goals as goal

pub returns-then-not-part : goal.returns-then-not-part
returns-then-not-part g c = last-part _ _ _ _ _ _ _ _ c.loop-part.invariant c.in_ok-part.ensures (not-true _ c.if-not-part.true)

pub loop-part-preserved : goal.loop-part-preserved
loop-part-preserved g c = part-more _ _ _ _ _ _ _ _ c.loop-part.invariant c.in_ok-part.ensures (not-false _ c.if-not-part.false)
