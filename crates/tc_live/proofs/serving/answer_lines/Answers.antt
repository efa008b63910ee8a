use Rattle.tc_live.proofs.Ending.{all-written, not-reported, lines-cut}
use Rattle.tc_live.proofs.serving.answer_lines.Goals as goal

pub returns-in-Ok-clause-written : goal.returns-in-Ok-clause-written
returns-in-Ok-clause-written g c = all-written _ _ _ _ _ _ _ c.in-Ok.ensures.written c.close.ensures.written c.close.ensures.ends

pub returns-in-Ok-clause-cut_short : goal.returns-in-Ok-clause-cut_short
returns-in-Ok-clause-cut_short g c =
    not-reported _ _ _ _ _ _ _ c.in-Ok.ensures.written c.close.ensures.fault c.close.ensures.kept

pub returns-in-Err-clause-cut_short : goal.returns-in-Err-clause-cut_short
returns-in-Err-clause-cut_short g c = rw c.of.ensures (lines-cut _ _ _ _ _ _ c.in-Err.ensures.cut_short)
