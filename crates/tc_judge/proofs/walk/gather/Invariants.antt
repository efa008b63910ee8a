use Rattle.std.specs.Prelude.{◌≡◌, ◌<◌, ◌↔◌, ◌∷◌, [], length}
use Rattle.tc_link.specs.declared.farm.Report.{Report}
use Rattle.tc_judge.specs.Account.{Explains}
use Rattle.tc_judge.specs.Layer.{Has, IsEmpty, IsLayer, SomeAt}
use Rattle.tc_judge.specs.declared.account.Item.TheVariants.{Heard}
use Rattle.tc_judge.proofs.Places.{IsSoFar}
use Rattle.tc_judge.proofs.walk.gather.Given as goal

abbrev pub invariant-loop-i : goal.invariant-loop-i
invariant-loop-i l =
    IsLayer l.layers.here.items × (length l.way < l.i → IsEmpty l.layers.here.items)
    × ((shown : Report) → IsSoFar l.rules l.now shown l.way l.marks l.i (Has l.into shown) l.layers.here.items []
    ↔ SomeAt (λ s. Explains l.rules s l.now (Heard shown ∷ [])) l.marks l.way)
    × (length l.into ≡ 8192) × (length l.layers.here.items ≡ 8192) × (length l.layers.next.items ≡ 8192)
