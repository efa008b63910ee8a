use Rattle.tc_desk.proofs.Names.{◌≡◌, vec_len, reported_row}
use Rattle.tc_desk.proofs.Rows.{AreAt}
use Rattle.tc_desk.proofs.together.report_row.Given as goal

abbrev pub invariant-loop-operator : goal.invariant-loop-operator
invariant-loop-operator g l = (reported_row l.guards l.operators.items ≡ reported_row l.fn.guards l.fn.operators.items) × AreAt l.guards l.operators.items

abbrev pub decreases-loop-operator : goal.decreases-loop-operator
decreases-loop-operator g l = vec_len l.operators
