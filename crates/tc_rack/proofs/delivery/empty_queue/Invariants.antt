use Rattle.tc_rack.proofs.Delivered.{IsSoFar}
use Rattle.tc_rack.proofs.delivery.empty_queue.Given as goal

-- the items taken so far are reported, and the others wait
abbrev pub invariant-loop : goal.invariant-loop
invariant-loop g l = IsSoFar l.queue l.initial.channel l.channel (g.W.Write.contents l.initial.writer) (g.W.Write.contents l.writer) l.counter
