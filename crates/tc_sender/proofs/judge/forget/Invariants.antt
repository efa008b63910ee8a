use Rattle.std.specs.Prelude.{◌≡◌, ◌≤◌, drop, length, vec_capacity}
use Rattle.tc_sender.proofs.judge.forget.Given as goal

abbrev pub invariant-loop-left : goal.invariant-loop-left
invariant-loop-left l =
    (l.left ≤ length l.numbers.items) × (drop l.left l.numbers.items ≡ drop l.fn.count l.initial.numbers.items)
    × (vec_capacity l.numbers ≡ vec_capacity l.initial.numbers)

abbrev pub decreases-loop-left : goal.decreases-loop-left
decreases-loop-left l = l.left
