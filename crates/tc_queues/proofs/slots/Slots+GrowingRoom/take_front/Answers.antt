use Rattle.std.proofs.Common.{◌<◌, arith}
use Rattle.tc_queues.proofs.Names.{common_steps}
use Rattle.tc_queues.proofs.Waiting.{turned-seen}
use Rattle.tc_queues.proofs.slots.Slots+GrowingRoom.take_front.Goals as goal

pub returns-clause-taken : goal.returns-clause-taken
returns-clause-taken c =
    let i = c.self.inside in
    let some : 0 < i.waiting = grind (arith, common_steps) in
    turned-seen i.waiting i.staged i.size i.ring c.turn_out-block.new.self c.args.self.now c.self.invariant some c.turn_out-block.ensures.turned c.self.view_is
