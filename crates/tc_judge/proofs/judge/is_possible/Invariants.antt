use Rattle.std.specs.Prelude.{◌≡◌, ◌≤◌, ◌↔◌, [], false, drop, length}
use Rattle.tc_judge.specs.Account.{Explains}
use Rattle.tc_judge.specs.Judge.{Allows}
use Rattle.tc_judge.proofs.judge.is_possible.Given as goal

abbrev pub invariant-loop-item : goal.invariant-loop-item
invariant-loop-item l =
    Allows l.judge [] × (Allows l.judge (drop l.item-index l.account) ↔ Explains l.fn.rules [] l.fn.first l.account)
    × (l.judge.overrun ≡ false) × (length l.judge.way ≤ l.item-index) × (l.judge.most ≡ length l.account)
