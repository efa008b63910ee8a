use Rattle.std.specs.Prelude.{◌≡◌, ◌+◌, ◌≤◌, ◌↔◌, List, length, vec_capacity}
use Rattle.tc_link.specs.declared.farm.Report.{Report}
use Rattle.tc_judge.specs.Account.{Explains}
use Rattle.tc_judge.specs.Layer.{SomeAt}
use Rattle.tc_judge.specs.declared.account.Rules.{Rules}
use Rattle.tc_judge.specs.declared.account.Item.{Item}
use Rattle.tc_judge.proofs.judge.trim.Given as goal

abbrev pub invariant-loop-marks : goal.invariant-loop-marks
invariant-loop-marks l =
    (length l.marks.items ≡ length l.way.items + 1)
    × (length l.way.items ≤ length l.initial.way.items)
    × (vec_capacity l.way ≡ vec_capacity l.initial.way) × (vec_capacity l.marks ≡ vec_capacity l.initial.marks)
    × ((rules : Rules) (r : Report) (items : List Item) → SomeAt (λ s. Explains rules s r items) l.marks.items l.way.items
    ↔ SomeAt (λ s. Explains rules s r items) l.initial.marks.items l.initial.way.items)

abbrev pub decreases-loop-marks : goal.decreases-loop-marks
decreases-loop-marks l = length l.way.items
