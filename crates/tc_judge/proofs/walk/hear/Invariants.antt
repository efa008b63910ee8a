use Rattle.std.specs.Prelude.{◌≡◌, ◌<◌, ◌↔◌, List, ◌∷◌, length, vec_capacity}
use Rattle.tc_judge.specs.Account.{Explains}
use Rattle.tc_judge.specs.Layer.{IsEmpty, IsLayer, SomeAt}
use Rattle.tc_judge.specs.declared.account.Item.{Item}
use Rattle.tc_judge.specs.declared.account.Item.TheVariants.{Heard}
use Rattle.tc_judge.proofs.Places.{IsSoFar}
use Rattle.tc_judge.proofs.walk.hear.Given as goal

abbrev pub invariant-loop-i : goal.invariant-loop-i
invariant-loop-i l =
    IsLayer l.layers.here.items × (length l.found.items ≡ l.i) × (length l.way < l.i → IsEmpty l.layers.here.items)
    × ((items : List Item) → IsSoFar l.rules l.now l.shown l.way l.marks l.i (SomeAt (λ s. Explains l.rules s l.shown items) l.found.items l.way) l.layers.here.items items
    ↔ SomeAt (λ s. Explains l.rules s l.now (Heard l.shown ∷ items)) l.marks l.way)
    × (vec_capacity l.found ≡ vec_capacity l.fn.found)
    × (length l.layers.here.items ≡ 8192) × (length l.layers.next.items ≡ 8192)
