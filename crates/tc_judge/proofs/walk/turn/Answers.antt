use Rattle.tc_judge.specs.Layer.{Goes}
use Rattle.std.proofs.Common.{subst}
use Rattle.tc_judge.proofs.Turns.{goes-held, turned}
use Rattle.tc_judge.proofs.walk.turn.Goals as goal

pub returns-clause-turn : goal.returns-clause-turn
returns-clause-turn c = λ shown. turned c.args.rules.now c.args.now shown c.args.here c.args.coming c.args.layer.now c.join.new.layer c.go.new.next
    c.requires.layer c.join.ensures.layer c.go.ensures.goes

pub returns-clause-layer : goal.returns-clause-layer
returns-clause-layer c = goes-held c.args.rules.now c.args.coming c.join.new.layer c.go.new.next c.go.ensures.goes

pub returns-clause-none : goal.returns-clause-none
returns-clause-none c = λ e. subst (λ k. Goes c.args.rules.now k c.join.new.layer c.go.new.next) e c.go.ensures.goes
