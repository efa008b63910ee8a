use Rattle.std.proofs.Common.{drop}
use Rattle.std.specs.List.{AllByRecursion}
use Rattle.tc_queues.specs.declared.settings.MapSetting.{MapSetting}
use Rattle.tc_fixed.specs.Limits.{IsListed}
use Rattle.tc_fixed.proofs.limits.all_listed.Given as goal

-- all chosen MAPs are listed if and only if the MAPs still to be checked are listed
abbrev pub invariant-loop-map : goal.invariant-loop-map
invariant-loop-map l = record {
  all : AllByRecursion (λ (m : MapSetting). IsListed l.maps m.map) (drop l.map-index l.chosen) → AllByRecursion (λ (m : MapSetting). IsListed l.maps m.map) l.chosen;
  left : AllByRecursion (λ (m : MapSetting). IsListed l.maps m.map) l.chosen → AllByRecursion (λ (m : MapSetting). IsListed l.maps m.map) (drop l.map-index l.chosen);
}
