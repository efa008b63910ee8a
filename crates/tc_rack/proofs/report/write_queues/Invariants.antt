use Rattle.tc_rack.proofs.Names.{take, Appends, flat_map, queue_line}
use Rattle.tc_rack.proofs.report.write_queues.Given as goal

-- the lines of the queues so far are written
abbrev pub invariant-loop-queue : goal.invariant-loop-queue
invariant-loop-queue g l =
    Appends (g.W.Write.contents l.fn.writer) (g.W.Write.contents l.writer) (flat_map (queue_line l.channel) (take l.queue-index l.queues))
