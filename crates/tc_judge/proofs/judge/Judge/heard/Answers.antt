use Rattle.std.specs.Prelude.{◌≡◌, ◌↔◌, ◌∷◌, [], vec_capacity}
use Rattle.std.proofs.Common.{arith, ap, subst, sym}
use Rattle.tc_judge.specs.Account.{Explains}
use Rattle.tc_judge.specs.Layer.{SomeAt}
use Rattle.tc_judge.specs.declared.account.Item.TheVariants.{Heard}
use Rattle.tc_judge.proofs.Places.{through}
use Rattle.tc_judge.proofs.Judged.{hears, any-there, none-there}
use Rattle.tc_judge.proofs.judge.Judge.heard.Goals as goal

pub returns-then-not-any-clause-impossible : goal.returns-then-not-any-clause-impossible
returns-then-not-any-clause-impossible c = rw (← c.self.view_is)
    (λ e items a.
    let s = (hears c.self.inside.rules c.report.result c.self.inside.now c.report-2.result c.args.shown c.deref.result.now c.self.inside.way.items c.deref-2.result.now c.self.inside.marks.items c.hear.new.found.items
    c.report.ensures.report c.report-2.ensures.report c.deref.ensures.value c.deref-2.ensures.value c.hear.ensures.heard items).1 a in
    none-there c.deref-3.result.now c.hear.new.found.items c.any.result c.deref-3.ensures.value (λ x. c.any.ensures.1 x) c.if-not-any.true (s.0, s.1, s.2))

pub invariant_of-self-2 : goal.invariant_of-self-2
invariant_of-self-2 c =
    let x : vec_capacity c.swap.new.x ≡ vec_capacity c.hear.new.found = ap (λ v. vec_capacity v) c.swap.ensures.x_after in
    let y : vec_capacity c.swap.new.y ≡ vec_capacity c.self.inside.marks = ap (λ v. vec_capacity v) c.swap.ensures.y_after in (
      c.trim.ensures.marks,
      omega (arith, c.trim.ensures.shorter, c.self.invariant.1),
      omega (arith, c.trim.ensures.room.0, c.self.invariant.2),
      omega (arith, c.trim.ensures.room.1, x, c.hear.ensures.room, c.self.invariant.4),
      omega (arith, y, c.self.invariant.3),
      c.hear.ensures.layers.0,
      c.hear.ensures.layers.1,
    )

pub returns-clause-possible : goal.returns-clause-possible
returns-clause-possible c = rw (← c.self.view_is)
    (λ e items. through (c.trim.ensures.some c.self.inside.rules c.args.shown items)
    (subst (λ v. SomeAt (λ s. Explains c.self.inside.rules s c.args.shown items) v.items c.self.inside.way.items
    ↔ SomeAt (λ s. Explains c.self.inside.rules s c.self.inside.now (Heard c.args.shown ∷ items)) c.self.inside.marks.items c.self.inside.way.items) (sym c.swap.ensures.x_after)
    (hears c.self.inside.rules c.report.result c.self.inside.now c.report-2.result c.args.shown c.deref.result.now c.self.inside.way.items c.deref-2.result.now c.self.inside.marks.items c.hear.new.found.items
    c.report.ensures.report c.report-2.ensures.report c.deref.ensures.value c.deref-2.ensures.value c.hear.ensures.heard items)))

pub returns-clause-explained : goal.returns-clause-explained
returns-clause-explained c = λ e. (c.trim.ensures.some c.self.inside.rules c.args.shown []).1
    (subst (λ v. SomeAt (λ s. Explains c.self.inside.rules s c.args.shown []) v.items c.self.inside.way.items) (sym c.swap.ensures.x_after)
    (any-there c.self.inside.rules c.args.shown c.self.inside.way.items c.deref-3.result.now c.hear.new.found.items c.deref-3.ensures.value (c.any.ensures.0 c.if-not-any.false)))
