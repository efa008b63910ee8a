use Rattle.std.proofs.Common.{◌≡◌, drop}
use Rattle.tc_fixed.specs.Limits.{largest_in}
use Rattle.tc_fixed.proofs.limits.LentLimits.largest.Given as goal

abbrev pub invariant-loop-limit : goal.invariant-loop-limit
invariant-loop-limit l = largest_in l.self.maps.now l.self.others ≡ largest_in (drop l.limit-index l.self.maps.now) l.largest
