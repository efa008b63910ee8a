use Rattle.std.proofs.Common.{arith}
use Rattle.tc_rack.proofs.Delivered.{none-taken, one-more-taken, all-taken, some-left}
use Rattle.tc_rack.proofs.delivery.empty_queue.Goals as goal

pub loop-init : goal.loop-init
loop-init g c = none-taken _ _ _

pub take_from-answer-requires : goal.take_from-answer-requires
take_from-answer-requires g c = some-left _ _ _ _ _ _ c.loop.invariant (omega arith)

pub loop-preserved : goal.loop-preserved
loop-preserved g c =
    one-more-taken _ _ _ _ _ _ _ _ _ c.loop.invariant c.take_from-answer.ensures.taken c.take_from-answer.ensures.rest c.take_from-answer.ensures.settings c.in_ok-write_answer.ensures

pub returns-clause-reported : goal.returns-clause-reported
returns-clause-reported g c = all-taken _ _ _ _ _ _ c.loop.invariant (omega arith)
