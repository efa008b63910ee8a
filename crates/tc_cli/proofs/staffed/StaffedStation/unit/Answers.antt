use Rattle.std.proofs.Common.{subst}
use Rattle.tc_cli.proofs.Names.{IsPlace, Staffed}
use Rattle.tc_cli.proofs.Answered.{unit-of-none, unit-taken, unit-without-map}
use Rattle.tc_cli.proofs.staffed.StaffedStation.unit.Goals as goal

pub operate_met-requires : goal.operate_met-requires
operate_met-requires g c = subst (λ (m : Staffed). IsPlace m.station c.args.vcid c.in-Some.place) c.self.view_is c.in-Some.ensures

pub returns-in-Ok-clause-answer : goal.returns-in-Ok-clause-answer
returns-in-Ok-clause-answer g c =
    let at = subst (λ (m : Staffed). IsPlace m.station c.args.vcid c.in-Some.place) c.self.view_is c.in-Some.ensures in
    rw c.from.ensures (unit-taken (λ p. p.items) _ c.args.self.now c.operate_met.new.self c.args.vcid c.args.map c.in-Ok.unit (c.in-Some.place, at, c.in-Ok.ensures.call))

pub returns-in-Err-NoMap-clause-answer : goal.returns-in-Err-NoMap-clause-answer
returns-in-Err-NoMap-clause-answer g c =
    let at = subst (λ (m : Staffed). IsPlace m.station c.args.vcid c.in-Some.place) c.self.view_is c.in-Some.ensures in
    unit-without-map (λ p. p.items) _ c.args.self.now c.operate_met.new.self c.args.vcid c.args.map (c.in-Some.place, at, rw c.in-Err-NoMap.field-0-is at c.in-Err-NoMap.ensures.call)

pub returns-in-Err-Empty-clause-answer : goal.returns-in-Err-Empty-clause-answer
returns-in-Err-Empty-clause-answer g c =
    let at = subst (λ (m : Staffed). IsPlace m.station c.args.vcid c.in-Some.place) c.self.view_is c.in-Some.ensures in
    unit-of-none (λ p. p.items) _ c.args.self.now c.operate_met.new.self c.args.vcid c.args.map (c.in-Some.place, at, rw c.in-Err-Empty.field-0-is at c.in-Err-Empty.ensures.call)
