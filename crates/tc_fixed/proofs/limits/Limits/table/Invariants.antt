use Rattle.std.proofs.Common.{◌≡◌, ◌<◌, ◌≤◌, ℕ, get_or, length}
use Rattle.std.specs.List.{AllByRecursion}
use Rattle.tc_fixed.specs.Limits.{limit_of}
use Rattle.tc_fixed.proofs.limits.Limits.table.Given as goal

-- the table has the limits of the MAPs that the loop has passed
abbrev pub invariant-loop-map : goal.invariant-loop-map
invariant-loop-map l = record {
  size : length l.table ≡ 64;
  small : AllByRecursion (λ (n : ℕ). n ≤ 65542) l.table;
  below : (k : ℕ) → k < l.map → get_or l.table k 0 ≡ limit_of l.self k;
}
