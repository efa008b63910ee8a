use Rattle.std.proofs.Common.{arith}
use Rattle.std.proofs.lemmas.Grind.{common_steps}
use Rattle.tc_link.proofs.clcw.read_clcw.Goals as goal

pub returns-clause-fields : goal.returns-clause-fields
returns-clause-fields c = grind (arith, common_steps) steps 1000000

pub returns-clause-variant : goal.returns-clause-variant
returns-clause-variant c = grind (arith, common_steps) steps 1000000
