use Rattle.std.specs.Prelude.{◌≡◌, ◌+◌, ◌<◌, ℕ, true, false, length, slice_index_or}
use Rattle.std.proofs.Common.{arith, rules}
use Rattle.tc_judge.proofs.Judged.{from-any}
use Rattle.tc_judge.proofs.judge.Judge.go_on.Goals as goal

pub returns-clause-allows : goal.returns-clause-allows
returns-clause-allows c = rw (← c.self.view_is)
    (let n : length c.fill.new.self.items ≡ length c.self.inside.way.items + 1 = omega (arith, c.self.invariant.0, c.fill.ensures.len) in
    let all : (k : ℕ) → k < length c.fill.new.self.items → slice_index_or c.fill.new.self.items k false ≡ true = search rules in
    λ items. from-any c.self.inside.rules c.args.from c.self.inside.way.items c.fill.new.self.items items n all)
