use Rattle.tc_channel.proofs.Names.{◌≡◌, ◌≤◌, length, take, vec_len, vec_capacity, filter_map}
use Rattle.tc_channel.specs.Holding.{queue_holding}
use Rattle.tc_channel.proofs.holding.packets_in.Given as goal

abbrev pub invariant-loop-queue : goal.invariant-loop-queue
invariant-loop-queue g l =
    (l.reported.items ≡ filter_map (queue_holding l.channel.settings l.channel.journal) (take l.queue-index l.queues))
    × (vec_len l.reported ≤ l.queue-index) × (length l.queues ≤ vec_capacity l.reported)
