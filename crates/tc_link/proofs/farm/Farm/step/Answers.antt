use Rattle.std.proofs.Common.{rules}
use Rattle.tc_link.proofs.farm.Farm.step.Goals as goal

pub returns-clause-accepted : goal.returns-clause-accepted
returns-clause-accepted c = search rules steps 1000000

pub returns-clause-report : goal.returns-clause-report
returns-clause-report c = search rules steps 1000000
