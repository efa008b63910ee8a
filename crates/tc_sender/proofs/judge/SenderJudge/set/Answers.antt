use Rattle.std.specs.Prelude.{◌<◌}
use Rattle.std.proofs.Common.{arith}
use Rattle.tc_sender.proofs.Judged.{set-so}
use Rattle.tc_sender.proofs.judge.SenderJudge.set.Goals as goal

pub returns-clause-allows : goal.returns-clause-allows
returns-clause-allows c =
    let small : c.args.vr < 256 = omega arith in
    rw (← c.self.view_is)
    (set-so c.self.inside.window c.self.inside.vr c.args.vr c.self.inside.numbers.items c.clear.new.self.items c.push_reserved.new.self.items
    c.clear.ensures.items c.push_reserved.ensures.items c.self.invariant.1 small)
