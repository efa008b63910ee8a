use Rattle.tc_channel.proofs.Names.{arith, common_steps, filter_map-append}
use Rattle.tc_channel.proofs.holding.packets_in.Goals.{in-Some, in_default}
use Rattle.tc_channel.proofs.holding.packets_in.Goals as goal

pub loop-queue-preserved : goal.loop-queue-preserved
loop-queue-preserved g c = elim c.match-packets_of.branch [
  | in-Some w ↦ rw w.reported-is (grind (arith, common_steps, filter_map-append))
  | in_default w ↦ rw w.reported-is (grind (arith, common_steps, filter_map-append))
]
