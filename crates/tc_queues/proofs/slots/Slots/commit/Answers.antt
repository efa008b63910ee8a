use Rattle.std.proofs.Common.{length}
use Rattle.tc_queues.proofs.Waiting.{committed-seen}
use Rattle.tc_queues.proofs.slots.Slots.commit.Goals as goal

pub returns : goal.returns
returns g c =
    let i = c.self.inside in
    rw (← c.self.view_is) (committed-seen (length i.ring) i.waiting i.staged i.size i.ring)
