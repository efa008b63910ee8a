use Rattle.std.specs.Prelude.{◌≡◌, length}
use Rattle.std.proofs.Common.{arith, sym}
use Rattle.std.proofs.lemmas.List.{take_at}
use Rattle.tc_judge.proofs.Judged.{gathers}
use Rattle.tc_judge.proofs.judge.Judge.possible.Goals as goal

pub returns-clause-possible : goal.returns-clause-possible
returns-clause-possible c =
    let n : length c.gather.new.into ≡ c.set.inside.flags.len = omega (arith, c.set.invariant, c.gather.ensures.len) in
    rw (← c.self.view_is)
    (λ e. gathers c.self.inside.rules c.report.result c.self.inside.now c.deref.result.now c.self.inside.way.items c.deref-2.result.now c.self.inside.marks.items c.gather.new.into _
    c.report.ensures.report c.deref.ensures.value c.deref-2.ensures.value (sym (take_at c.gather.new.into _ c.set.inside.flags.len n)) c.gather.ensures.gathered)
