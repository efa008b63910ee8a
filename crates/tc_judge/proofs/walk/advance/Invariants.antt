use Rattle.std.specs.Prelude.{◌≡◌, ◌↔◌, length}
use Rattle.tc_link.specs.declared.farm.Report.{Report}
use Rattle.tc_judge.specs.Layer.{Has, IsMadeOf}
use Rattle.tc_judge.proofs.Flagged.{SomeBelow}
use Rattle.tc_judge.proofs.walk.advance.Given as goal

abbrev pub invariant-loop-place : goal.invariant-loop-place
invariant-loop-place l =
    (length l.next ≡ 8192) × ((y : Report) → Has l.next y ↔ SomeBelow (λ r. IsMadeOf l.rules l.frame r y) l.place l.layer)
