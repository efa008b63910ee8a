use Rattle.std.proofs.Common.{rules}
use Rattle.tc_link.proofs.farm.Farm.new.Goals as goal

pub returns-clause-report : goal.returns-clause-report
returns-clause-report c = search rules steps 1000000
