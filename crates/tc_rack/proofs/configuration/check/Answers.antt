use Rattle.std.proofs.Common.{rules}
use Rattle.tc_rack.proofs.configuration.check.Goals as goal

pub returns : goal.returns
returns c = search rules
