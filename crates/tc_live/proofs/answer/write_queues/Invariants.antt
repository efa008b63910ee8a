use Rattle.tc_live.proofs.Names.{take, HasWritten, IsPlainFormatter, flat_map, queue_text}
use Rattle.tc_live.proofs.answer.write_queues.Given as goal

-- the text of the queues so far is written
abbrev pub invariant-loop-queue : goal.invariant-loop-queue
invariant-loop-queue g l =
    IsPlainFormatter l.initial.f → HasWritten g.W.Write.write_str_gives l.initial.f (flat_map queue_text (take l.queue-index l.queues)) l.f
