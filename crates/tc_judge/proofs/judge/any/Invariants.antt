use Rattle.std.specs.Prelude.{◌≡◌, ℕ, ◌<◌, false, slice_index_or}
use Rattle.tc_judge.proofs.judge.any.Given as goal

abbrev pub invariant-loop-mark : goal.invariant-loop-mark
invariant-loop-mark l = (k : ℕ) → k < l.mark-index → slice_index_or l.marks k false ≡ false
