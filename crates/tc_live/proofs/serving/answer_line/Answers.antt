use Rattle.std.proofs.lemmas.Result.{on_ok_weaker}
use Rattle.tc_live.proofs.Following.{ready, said}
use Rattle.tc_live.proofs.serving.answer_line.Goals as goal

pub report-requires : goal.report-requires
report-requires g c = ready _ _ _ _ c.in-Ok.ensures.answer

pub returns-in-Ok : goal.returns-in-Ok
returns-in-Ok g c = record { written = on_ok_weaker c.report.result (said _ _ _ _ _ _ _ c.in-Ok.ensures.answer) c.report.ensures }
