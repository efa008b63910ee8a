use Rattle.tc_live.proofs.Instructed.{instructed}
use Rattle.tc_live.proofs.receiver.Receiver.instruct.Goals as goal

pub returns-clause-answer : goal.returns-clause-answer
returns-clause-answer c =
    instructed c.args.self.now c.self.inside.check c.self.inside.ends c.self.inside.scid c.backend-backend.result.scid c.self.inside.stage c.perform.new.stage c.args.instruction
    c.in_ok-answer.answer c.of_script.result c.self.view_is c.backend-backend.ensures c.in_ok-answer.ensures.answer c.of_script.ensures
