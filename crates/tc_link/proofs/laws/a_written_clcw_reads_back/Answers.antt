use Rattle.std.proofs.Common.{arith}
use Rattle.std.proofs.lemmas.Grind.{common_steps}
use Rattle.tc_link.proofs.laws.a_written_clcw_reads_back.Goals as goal

pub returns-clause-fits : goal.returns-clause-fits
returns-clause-fits c = grind (arith, common_steps)

pub returns-clause-clcw : goal.returns-clause-clcw
returns-clause-clcw c = grind (arith, common_steps)

pub returns-clause-fields : goal.returns-clause-fields
returns-clause-fields c = grind (arith, common_steps)
