use Rattle.std.proofs.Common.{arith}
use Rattle.std.proofs.lemmas.Grind.{common_steps}
use Rattle.tc_link.proofs.frame.read_frame.Goals as goal

pub returns-then-length-octets-clause-fault : goal.returns-then-length-octets-clause-fault
returns-then-length-octets-clause-fault c = grind (arith, common_steps) steps 1000000

pub returns-then-length-octets-clause-none : goal.returns-then-length-octets-clause-none
returns-then-length-octets-clause-none c = grind (arith, common_steps) steps 1000000
