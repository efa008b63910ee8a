use Rattle.std.proofs.Common.{◌≡◌, ◌≤◌, ◌*◌}
use Rattle.tc_fixed.specs.Limits.{limits_of}
use Rattle.tc_fixed.specs.Storage.{limits_below}
use Rattle.tc_fixed.proofs.memory.all_limits.Given as goal

-- the sum has the limits of the MAPs that the loop has passed
abbrev pub invariant-loop-map : goal.invariant-loop-map
invariant-loop-map l = (l.all ≡ limits_below (limits_of l.limits) l.map) × (l.all ≤ l.map * 4294967296)
