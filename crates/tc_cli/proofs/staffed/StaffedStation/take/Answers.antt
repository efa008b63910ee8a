use Rattle.std.proofs.Common.{subst}
use Rattle.tc_cli.proofs.Names.{IsPlace, Staffed}
use Rattle.tc_cli.proofs.Answered.{take-of-none, take-without-queue, taken}
use Rattle.tc_cli.proofs.staffed.StaffedStation.take.Goals as goal

pub operate_met-requires : goal.operate_met-requires
operate_met-requires g c = subst (λ (m : Staffed). IsPlace m.station c.args.vcid c.in-Some.place) c.self.view_is c.in-Some.ensures

pub returns-in-Ok-clause-answer : goal.returns-in-Ok-clause-answer
returns-in-Ok-clause-answer g c =
    let at = subst (λ (m : Staffed). IsPlace m.station c.args.vcid c.in-Some.place) c.self.view_is c.in-Some.ensures in
    rw c.from.ensures (taken (λ p. p.items) _ c.args.self.now c.operate_met.new.self c.args.vcid c.args.apid c.in-Ok.packet (c.in-Some.place, at, c.in-Ok.ensures.call))

pub returns-in-Err-NoQueue-clause-answer : goal.returns-in-Err-NoQueue-clause-answer
returns-in-Err-NoQueue-clause-answer g c =
    let at = subst (λ (m : Staffed). IsPlace m.station c.args.vcid c.in-Some.place) c.self.view_is c.in-Some.ensures in
    take-without-queue (λ p. p.items) _ c.args.self.now c.operate_met.new.self c.args.vcid c.args.apid (c.in-Some.place, at, rw c.in-Err-NoQueue.field-0-is at c.in-Err-NoQueue.ensures.call)

pub returns-in-Err-Empty-clause-answer : goal.returns-in-Err-Empty-clause-answer
returns-in-Err-Empty-clause-answer g c =
    let at = subst (λ (m : Staffed). IsPlace m.station c.args.vcid c.in-Some.place) c.self.view_is c.in-Some.ensures in
    take-of-none (λ p. p.items) _ c.args.self.now c.operate_met.new.self c.args.vcid c.args.apid (c.in-Some.place, at, rw c.in-Err-Empty.field-0-is at c.in-Err-Empty.ensures.call)
