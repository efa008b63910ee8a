use Rattle.std.proofs.lemmas.Result.{on_ok_weaker}
use Rattle.tc_live.proofs.Following.{followed}
use Rattle.tc_live.proofs.serving.report.Goals as goal

pub returns : goal.returns
returns g c = on_ok_weaker c.follow.result (followed _ _ _ _ _ _ c.in_ok-write_answer.ensures) c.follow.ensures
