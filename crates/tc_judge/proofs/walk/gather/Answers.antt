use Rattle.std.specs.Prelude.{◌<◌, ◌≤◌, [], length, drop}
use Rattle.std.proofs.Common.{arith, subst, sym, ◌∙◌}
use Rattle.std.proofs.lemmas.Option.{slice_get_past}
use Rattle.tc_judge.specs.Account.{ended}
use Rattle.tc_judge.specs.Layer.{Has}
use Rattle.tc_judge.proofs.Unions.{alike}
use Rattle.tc_judge.proofs.Places.{get-drop, turn-on, at-last, through, turned-round}
use Rattle.tc_judge.proofs.walk.gather.Goals as goal

pub loop-i-preserved : goal.loop-i-preserved
loop-i-preserved c =
    let h : c.loop-i.i < length c.args.marks.now = omega arith in (
      c.take_turn.ensures.layer,
      (λ past. let le : length c.args.way.now ≤ c.loop-i.i = omega (arith, past) in
          c.take_turn.ensures.none (c.frame_at.ensures ∙ slice_get_past c.args.way.now c.loop-i.i le)),
      (λ shown. through
          (turn-on c.args.rules.now c.args.now shown c.args.way.now c.args.marks.now (Has c.loop-i.into shown) (Has c.unite.new.into shown)
          c.loop-i.layers.here.items c.take_turn.new.layers.next.items c.take_turn.new.layers.here.items c.loop-i.i [] h
          (alike (c.unite.ensures.united shown) ((λ has. (subst (λ layer. Has layer shown) c.deref.ensures.value has, ended)), (λ p. subst (λ layer. Has layer shown) (sym c.deref.ensures.value) p.0)))
          (c.take_turn.ensures.turn shown (drop c.loop-i.i c.args.way.now) [] (get-drop c.args.way.now c.loop-i.i ∙ sym c.frame_at.ensures)))
          (c.loop-i.invariant.2 shown)),
      c.unite.ensures.len,
      c.take_turn.ensures.layers.0,
      c.take_turn.ensures.layers.1,
    )

pub returns-clause-gathered : goal.returns-clause-gathered
returns-clause-gathered c =
    let ge : length c.args.marks.now ≤ c.loop-i.i = omega arith in
    let past : length c.args.way.now < c.loop-i.i = omega (arith, ge, c.requires.marks) in
    λ shown. through
    (turned-round (at-last c.args.rules.now c.args.now shown c.args.way.now c.args.marks.now (Has c.loop-i.into shown) c.loop-i.layers.here.items c.loop-i.i [] (c.loop-i.invariant.1 past) ge))
    (c.loop-i.invariant.2 shown)
