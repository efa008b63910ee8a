use Rattle.std.proofs.Common.{rules}
use Rattle.tc_rack.proofs.growing.append.Goals as goal

pub returns-clause-done : goal.returns-clause-done
returns-clause-done g c = search rules
