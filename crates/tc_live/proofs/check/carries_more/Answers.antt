use Rattle.tc_live.proofs.Candidates.{carried}
use Rattle.tc_live.proofs.check.carries_more.Goals as goal

pub returns-in-Ok : goal.returns-in-Ok
returns-in-Ok c = carried c.is_fill.result c.args.octets.now c.in-Ok.found.frame.now c.in-Ok.found.rest.now c.in-Ok.ensures.frame c.is_fill.ensures
