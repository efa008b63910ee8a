use Rattle.std.proofs.Common.{arith}
use Rattle.std.proofs.lemmas.Grind.{common_steps}
use Rattle.tc_packet.proofs.packet.read_packet.Goals as goal

pub returns-then-first-ne0-clause-none : goal.returns-then-first-ne0-clause-none
returns-then-first-ne0-clause-none c = grind (arith, common_steps) steps 1000000
