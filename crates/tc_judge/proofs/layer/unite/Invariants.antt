use Rattle.std.specs.Prelude.{◌≡◌, ◌⊎◌, ◌↔◌, length}
use Rattle.tc_link.specs.declared.farm.Report.{Report}
use Rattle.tc_judge.specs.Layer.{Has}
use Rattle.tc_judge.proofs.Flagged.{SomeBelow}
use Rattle.tc_judge.proofs.layer.unite.Given as goal

abbrev pub invariant-loop-place : goal.invariant-loop-place
invariant-loop-place l =
    (length l.into ≡ 8192) × ((y : Report) → Has l.into y ↔ (Has l.initial.into y ⊎ SomeBelow (λ r. y ≡ r) l.place l.layer))
