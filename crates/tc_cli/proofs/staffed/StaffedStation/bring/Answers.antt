use Rattle.std.proofs.Common.{inr, refl, subst}
use Rattle.tc_station.specs.Location.{IsPlaced}
use Rattle.tc_cli.proofs.Names.{IsLocateFault, Staffed}
use Rattle.tc_cli.proofs.Answered.{brought}
use Rattle.tc_cli.proofs.staffed.StaffedStation.bring.Goals as goal

pub returns-in-Err-clause-answer : goal.returns-in-Err-clause-answer
returns-in-Err-clause-answer g c =
    inr (c.in-Err.fault, subst (λ (m : Staffed). IsLocateFault m.station c.args.octets.now c.in-Err.fault) c.self.view_is c.in-Err.ensures, refl, refl)

pub operate_met-requires : goal.operate_met-requires
operate_met-requires g c =
    let at = c.in-Ok.placed.1 in
    (subst (λ (m : Staffed). IsPlaced m.station c.args.octets.now c.in-Ok.placed.0 at.vcid at.frame) c.self.view_is c.in-Ok.ensures).1

pub returns-in-Ok-operate_met-clause-answer : goal.returns-in-Ok-operate_met-clause-answer
returns-in-Ok-operate_met-clause-answer g c =
    let at = c.in-Ok.placed.1 in
    let placed = subst (λ (m : Staffed). IsPlaced m.station c.args.octets.now c.in-Ok.placed.0 at.vcid at.frame) c.self.view_is c.in-Ok.ensures in
    brought _ c.args.self.now c.operate_met.new.self c.args.octets.now at.vcid at.frame c.in-Ok-operate_met.reply placed.0 (c.in-Ok.placed.0, placed.1, c.in-Ok-operate_met.ensures.call)
