use Rattle.std.proofs.lemmas.Bool.{not-true, not-false}
use Rattle.tc_lines.proofs.Lines.{none-answered, line-more, lines-end, lines-cut}
use Rattle.tc_lines.proofs.answering.answer_lines.Goals as goal

pub loop-line-init : goal.loop-line-init
loop-line-init g c = none-answered _ _ _ _ _

pub returns-in_default-read_line-clause-cut_short : goal.returns-in_default-read_line-clause-cut_short
returns-in_default-read_line-clause-cut_short g c = lines-cut _ _ _ _ _ _ _ _ c.loop-line.invariant

pub returns-then-not-read-clause-written : goal.returns-then-not-read-clause-written
returns-then-not-read-clause-written g c =
    lines-end _ _ _ _ _ _ _ _ _ _ _ _ _ _ c.loop-line.invariant c.in-Ok-read_line.ensures (not-true _ c.if-not-read.true) c.as_slice.ensures.value
    c.in_ok-answer_and_flush.ensures.written

pub loop-line-preserved : goal.loop-line-preserved
loop-line-preserved g c =
    line-more _ _ _ _ _ _ _ _ _ _ _ _ _ _ c.loop-line.invariant c.in-Ok-read_line.ensures (not-false _ c.if-not-read.false) c.as_slice.ensures.value
    c.in_ok-answer_and_flush.ensures.written
