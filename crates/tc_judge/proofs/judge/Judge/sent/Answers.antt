use Rattle.tc_judge.proofs.Judged.{sent-on}
use Rattle.tc_judge.proofs.judge.Judge.sent.Goals as goal

pub returns-clause-allows : goal.returns-clause-allows
returns-clause-allows c = rw (← c.self.view_is)
    (λ room items. sent-on c.self.inside.rules c.self.inside.now c.args.frame c.self.inside.way.items c.push_reserved.new.self.items c.self.inside.marks.items c.push_reserved-2.new.self.items items
    c.self.invariant.0 c.push_reserved.ensures.items c.push_reserved-2.ensures.items)
