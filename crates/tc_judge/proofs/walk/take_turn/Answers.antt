use Rattle.std.specs.Prelude.{◌≡◌, length, drop}
use Rattle.std.proofs.Common.{arith, subst, sym, ap, ◌∙◌}
use Rattle.std.proofs.lemmas.List.{take_at}
use Rattle.tc_judge.specs.Layer.{IsTurn}
use Rattle.tc_judge.proofs.walk.take_turn.Goals as goal

pub returns-clause-turn : goal.returns-clause-turn
returns-clause-turn c = λ shown way items e.
    let k : length c.turn.new.next ≡ c.args.layers.now.next.len = omega (arith, c.requires.layers.1, c.turn.ensures.next) in
    let n : c.turn.new.next ≡ c.swap.new.x.items
    = sym (take_at c.turn.new.next (drop (length c.turn.new.next) c.args.layers.now.next.items) c.args.layers.now.next.len k) ∙ sym (ap (λ v. v.items) c.swap.ensures.x_after) in
    let l : length c.turn.new.layer ≡ c.args.layers.now.here.len = omega (arith, c.requires.layers.0, c.turn.ensures.len) in
    let j : c.turn.new.layer ≡ c.swap.new.y.items
    = sym (take_at c.turn.new.layer (drop (length c.turn.new.layer) c.args.layers.now.here.items) c.args.layers.now.here.len l) ∙ sym (ap (λ v. v.items) c.swap.ensures.y_after) in
    subst (λ next. IsTurn c.args.rules.now c.args.now shown c.args.here c.args.layers.now.here.items c.swap.new.y.items next way items) n
    (subst (λ joined. IsTurn c.args.rules.now c.args.now shown c.args.here c.args.layers.now.here.items joined c.turn.new.next way items) j
    (subst (λ layer. IsTurn c.args.rules.now c.args.now shown c.args.here layer c.turn.new.layer c.turn.new.next way items) c.deref_mut.ensures.value
    (c.turn.ensures.turn shown way items e)))
