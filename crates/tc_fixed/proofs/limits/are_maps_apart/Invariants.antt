use Rattle.tc_queues.proofs.Apart.{ApartBelow}
use Rattle.tc_fixed.specs.declared.limits.MapLimit.{MapLimit}
use Rattle.tc_fixed.proofs.limits.are_maps_apart.Given as goal

abbrev pub invariant-loop-i : goal.invariant-loop-i
invariant-loop-i l = ApartBelow (λ (m : MapLimit). m.map) l.maps l.i
