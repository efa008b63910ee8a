use Rattle.std.specs.Prelude.{◌<◌, ◌≤◌, ◌⊎◌, ◌↔◌, length, drop}
use Rattle.std.proofs.Common.{arith, subst, sym, ◌∙◌, ◌+◌, ap}
use Rattle.std.proofs.lemmas.List.{length_push}
use Rattle.std.proofs.lemmas.Option.{slice_get_past}
use Rattle.tc_judge.specs.Account.{Explains}
use Rattle.tc_judge.specs.Layer.{Has, SomeAt}
use Rattle.tc_judge.proofs.Unions.{alike}
use Rattle.tc_judge.proofs.Places.{get-drop, pushed, turn-on, at-last, through, turned-round}
use Rattle.tc_judge.proofs.walk.hear.Goals as goal

pub loop-i-preserved : goal.loop-i-preserved
loop-i-preserved c =
    let h : c.loop-i.i < length c.args.marks.now = omega arith in
    let items-are = c.push_reserved.ensures.items in (
      c.take_turn.ensures.layer,
      ap length items-are ∙ length_push c.loop-i.found.items c.has.result ∙ ap (λ n. n + 1) c.loop-i.invariant.1,
      (λ past. let le : length c.args.way.now ≤ c.loop-i.i = omega (arith, past) in
          c.take_turn.ensures.none (c.frame_at.ensures ∙ slice_get_past c.args.way.now c.loop-i.i le)),
      (λ items. through
          (turn-on c.args.rules.now c.args.now c.args.shown c.args.way.now c.args.marks.now
          (SomeAt (λ s. Explains c.args.rules.now s c.args.shown items) c.loop-i.found.items c.args.way.now)
          (SomeAt (λ s. Explains c.args.rules.now s c.args.shown items) c.push_reserved.new.self.items c.args.way.now)
          c.loop-i.layers.here.items c.take_turn.new.layers.next.items c.take_turn.new.layers.here.items c.loop-i.i items h
          (subst (λ found. SomeAt (λ s. Explains c.args.rules.now s c.args.shown items) found c.args.way.now
          ↔ (SomeAt (λ s. Explains c.args.rules.now s c.args.shown items) c.loop-i.found.items c.args.way.now
          ⊎ (Has c.take_turn.new.layers.next.items c.args.shown × Explains c.args.rules.now (drop c.loop-i.i c.args.way.now) c.args.shown items))) (sym items-are)
          (alike (pushed (λ s. Explains c.args.rules.now s c.args.shown items) c.loop-i.found.items c.has.result c.loop-i.i c.args.way.now c.loop-i.invariant.1)
          ((λ p. (subst (λ layer. Has layer c.args.shown) c.deref.ensures.value (c.has.ensures.0 p.0), p.1)), (λ p. (c.has.ensures.1 (subst (λ layer. Has layer c.args.shown) (sym c.deref.ensures.value) p.0), p.1)))))
          (c.take_turn.ensures.turn c.args.shown (drop c.loop-i.i c.args.way.now) items (get-drop c.args.way.now c.loop-i.i ∙ sym c.frame_at.ensures)))
          (c.loop-i.invariant.3 items)),
      c.push_reserved.ensures.capacity ∙ c.loop-i.invariant.4,
      c.take_turn.ensures.layers.0,
      c.take_turn.ensures.layers.1,
    )

pub returns-clause-heard : goal.returns-clause-heard
returns-clause-heard c =
    let ge : length c.args.marks.now ≤ c.loop-i.i = omega arith in
    let past : length c.args.way.now < c.loop-i.i = omega (arith, ge, c.requires.marks) in
    λ items. through
    (turned-round (at-last c.args.rules.now c.args.now c.args.shown c.args.way.now c.args.marks.now
    (SomeAt (λ s. Explains c.args.rules.now s c.args.shown items) c.loop-i.found.items c.args.way.now) c.loop-i.layers.here.items c.loop-i.i items (c.loop-i.invariant.2 past) ge))
    (c.loop-i.invariant.3 items)
