use Rattle.std.proofs.Common.{inr, rules}
use Rattle.std.proofs.lemmas.Result.{IfOk-weaker, IfErr-weaker}
use Rattle.tc_cli.proofs.Numbered.{work-cause, work-fault}
use Rattle.tc_cli.proofs.Scripts.{parted-reached}
use Rattle.tc_cli.proofs.parallel.work_lines.Goals as goal

pub returns-in-Ok-clause-worked : goal.returns-in-Ok-clause-worked
returns-in-Ok-clause-worked g c =
    IfOk-weaker c.work.result _ _ (λ channels w. (c.in_ok-plan.lines, c.in_ok-plan.plan, c.in_ok-plan.ensures.parted, inr (c.in-Ok.parted, c.in-Ok.ensures.parted, w))) c.work.ensures.worked

pub returns-in-Ok-clause-fault : goal.returns-in-Ok-clause-fault
returns-in-Ok-clause-fault g c =
    IfErr-weaker c.work.result _ _ (λ fault why. work-fault c.args.scid c.args.script.now c.in_ok-plan.lines c.in_ok-plan.plan c.in-Ok.parted fault c.in_ok-plan.ensures.parted c.in-Ok.ensures.parted c.requires.within why) c.work.ensures.fault

pub returns-in-Ok-clause-cause : goal.returns-in-Ok-clause-cause
returns-in-Ok-clause-cause g c =
    IfErr-weaker c.work.result _ _ (λ fault why. work-cause c.args.scid c.args.script.now c.in_ok-plan.lines c.in_ok-plan.plan c.in-Ok.parted fault c.in_ok-plan.ensures.parted c.in-Ok.ensures.parted why) c.work.ensures.fault

pub returns-in-Err : goal.returns-in-Err
returns-in-Err g c =
    let reached = parted-reached c.args.scid c.args.script.now c.in_ok-plan.lines c.in_ok-plan.plan c.in_ok-plan.ensures.parted in
    search rules
