use Rattle.std.proofs.Common.{◌≡◌, arith}
use Rattle.std.specs.Prelude.{IsTrue, ◌↔◌}
use Rattle.std.specs.List.{AllByRecursion}
use Rattle.std.proofs.lemmas.Grind.{common_steps}
use Rattle.tc_queues.specs.declared.settings.MapSetting.{MapSetting}
use Rattle.tc_fixed.specs.Limits.{IsListed}
use Rattle.tc_fixed.proofs.limits.are_listed.Goals as goal

pub returns-else-limits-ge1 : goal.returns-else-limits-ge1
returns-else-limits-ge1 c =
    let none : c.args.limits.others ≡ 0 = grind (arith, common_steps) in
    let each : IsTrue c.all_listed.result ↔ AllByRecursion (λ (m : MapSetting). IsListed c.args.limits.maps.now m.map) c.args.chosen.now = c.all_listed.ensures in
    (λ yes zero. each.0 yes, λ listed. each.1 (listed none))
