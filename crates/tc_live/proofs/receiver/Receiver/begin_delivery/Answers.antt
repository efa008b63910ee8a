use Rattle.tc_live.proofs.Deliveries.{release-reported}
use Rattle.tc_live.proofs.receiver.Receiver.begin_delivery.Goals as goal
use Rattle.tc_live.proofs.receiver.Receiver.begin_delivery.Goals.{in-Ok, in-Err}

pub returns-clause-answer : goal.returns-clause-answer
returns-clause-answer c = elim c.match-operate.branch [
  | in-Ok w ↦ rw w.result-is
      (release-reported c.args.self.now c.begin.new.self c.self.inside.check c.self.inside.ends c.self.inside.scid c.self.inside.stage c.in-Operating.rack c.operate.new.self c.args.vcid w.in-Ok.answer
      c.in_ok-begin.ensures.begun c.self.view_is c.in-Operating.is w.in-Ok.ensures.answer)
  | in-Err w ↦ rw w.result-is tt
]
