use Rattle.tc_queues.proofs.Names.{◌≡◌, ◌≤◌, ◌*◌, take, sum_by, MapSetting}
use Rattle.tc_queues.proofs.memory.stored_units.Given as goal

abbrev pub invariant-loop-chosen : goal.invariant-loop-chosen
invariant-loop-chosen l =
    (l.stored ≡ sum_by (λ (m : MapSetting). m.capacity) (take l.chosen-index l.maps)) × (l.stored ≤ l.chosen-index * 65536)
