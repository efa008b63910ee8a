use Rattle.std.proofs.Common.{refl}
use Rattle.tc_rack.proofs.ApidEntries.{no-queue}
use Rattle.tc_rack.proofs.apids.apids_of.Goals as goal

pub loop-queue-init : goal.loop-queue-init
loop-queue-init c = no-queue _ refl
