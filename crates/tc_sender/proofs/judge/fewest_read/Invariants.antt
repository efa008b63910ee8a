use Rattle.std.specs.Prelude.{ℕ, ◌<◌, slice_index_or}
use Rattle.tc_sender.specs.Account.{IsWithin}
use Rattle.tc_sender.proofs.judge.fewest_read.Given as goal

abbrev pub invariant-loop-place : goal.invariant-loop-place
invariant-loop-place l = (k : ℕ) → k < l.place → IsWithin l.window (slice_index_or l.numbers k 0) l.number → ⊥
