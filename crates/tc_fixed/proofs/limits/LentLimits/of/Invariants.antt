use Rattle.std.proofs.Common.{◌≡◌, drop}
use Rattle.tc_fixed.specs.Limits.{limit_in}
use Rattle.tc_fixed.proofs.limits.LentLimits.of.Given as goal

abbrev pub invariant-loop-limit : goal.invariant-loop-limit
invariant-loop-limit l = limit_in l.self.maps.now l.self.others l.map ≡ limit_in (drop l.limit-index l.self.maps.now) l.self.others l.map
