use Rattle.tc_queues.proofs.Ways.{by-nothing}
use Rattle.tc_queues.proofs.queues.deliver_nothing.Goals as goal

pub returns : goal.returns
returns c = by-nothing
