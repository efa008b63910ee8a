use Rattle.std.proofs.Common.{◌<◌, arith}
use Rattle.tc_queues.proofs.Names.{common_steps}
use Rattle.tc_queues.proofs.Waiting.{turned-seen}
use Rattle.tc_queues.proofs.slots.Slots.pop_front.Goals as goal

pub returns : goal.returns
returns g c =
    let i = c.self.inside in
    let some : 0 < i.waiting = grind (arith, common_steps) in
    turned-seen i.waiting i.staged i.size i.ring c.turn.new.self c.args.self.now c.self.invariant some c.turn.ensures c.self.view_is
