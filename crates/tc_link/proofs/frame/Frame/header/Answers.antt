use Rattle.std.proofs.Common.{rules}
use Rattle.tc_link.proofs.frame.Frame.header.Goals as goal

pub returns : goal.returns
returns c = search rules steps 1000000
