use Rattle.tc_live.proofs.Names.{◌≡◌, ◌⊎◌, instruction_of, IsBad, phase_of, IsPassedDone, IsCandidateDone, IsBadCandidate}
use Rattle.std.proofs.lemmas.Result.{IfErr-weaker, IfOk-weaker}
use Rattle.tc_text.specs.declared.fault.Reason.TheVariants.{NoMemory}
use Rattle.tc_live.proofs.Candidates.{passed-done, passed-bad}
use Rattle.tc_live.proofs.receiver.Receiver.candidate.Goals as goal

pub returns-in-Some-clause-answer : goal.returns-in-Some-clause-answer
returns-in-Some-clause-answer c =
    let i = c.self.inside in
    IfOk-weaker c.perform_passed.result (λ answer. IsPassedDone c.args.self.now c.in-Some.passed c.perform_passed.new.self answer)
    (λ answer. IsCandidateDone c.args.self.now c.args.octets c.perform_passed.new.self answer)
    (λ answer done. passed-done c.args.self.now c.perform_passed.new.self i.check i.ends i.scid i.stage c.args.octets c.as_slice.result.now c.carries_more.result c.in_ok-passed.field-0 c.in-Some.passed answer
    c.self.view_is c.as_slice.ensures c.carries_more.ensures c.if-carries_more.false c.in_ok-passed.ensures.passed c.in-Some.is done)
    c.perform_passed.ensures.answer

pub returns-in-Some-clause-reason : goal.returns-in-Some-clause-reason
returns-in-Some-clause-reason c =
    let i = c.self.inside in
    IfErr-weaker c.perform_passed.result (λ reason. (reason ≡ NoMemory) ⊎ IsBad (phase_of c.args.self.now.stage) (instruction_of c.in-Some.passed) reason)
    (λ reason. (reason ≡ NoMemory) ⊎ IsBadCandidate c.args.self.now c.args.octets reason)
    (λ reason bad. passed-bad c.args.self.now i.check i.ends i.scid i.stage c.args.octets c.in_ok-passed.field-0 c.in-Some.passed reason (reason ≡ NoMemory)
    c.self.view_is c.in_ok-passed.ensures.passed c.in-Some.is bad)
    c.perform_passed.ensures.reason
