use Rattle.std.proofs.Common.{arith}
use Rattle.tc_packet.proofs.Names.{boxed_slice_items, common_steps}
use Rattle.tc_packet.proofs.Stores.{closed-set, none-over}
use Rattle.tc_packet.proofs.runs.close_at.Goals as goal

pub returns-then-at-as_slice-clause-over : goal.returns-then-at-as_slice-clause-over
returns-then-at-as_slice-clause-over g c = rw c.close.ensures (closed-set (boxed_slice_items c.args.runs.now) c.args.at c.index_mut-run.result.now (grind (arith, common_steps)) c.index_mut-run.ensures.value)

pub returns-else-at-as_slice-clause-over : goal.returns-else-at-as_slice-clause-over
returns-else-at-as_slice-clause-over g c = none-over (boxed_slice_items c.args.runs.now) c.args.at (grind (arith, common_steps))
