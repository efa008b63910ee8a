use Rattle.tc_rack.specs.Delivery.{packet_queues}
use Rattle.tc_rack.proofs.Delivered.{AreSoFar}
use Rattle.tc_rack.proofs.delivery.empty_packet_queues.Given as goal

-- the queues that the loop has passed are emptied
abbrev pub invariant-loop-place : goal.invariant-loop-place
invariant-loop-place g l =
    AreSoFar (packet_queues l.initial.channel.history.settings) l.initial.channel l.channel (g.W.Write.contents l.initial.writer) (g.W.Write.contents l.writer) l.place
