use Rattle.std.proofs.Common.{rules}
use Rattle.tc_link.proofs.frame.kind.Goals as goal

pub returns-in-false-true : goal.returns-in-false-true
returns-in-false-true c = search rules steps 1000000
