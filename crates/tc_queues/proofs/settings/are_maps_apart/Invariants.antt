use Rattle.tc_queues.proofs.Names.{MapSetting}
use Rattle.tc_queues.proofs.Apart.{ApartBelow}
use Rattle.tc_queues.proofs.settings.are_maps_apart.Given as goal

abbrev pub invariant-loop-i : goal.invariant-loop-i
invariant-loop-i l = ApartBelow (λ (m : MapSetting). m.map) l.maps l.i
