use Rattle.std.specs.Prelude.{◌≡◌, ◌+◌, ◌<◌, ◌≤◌, ◌⊎◌, ◌↔◌, true, false, length, slice_index_or}
use Rattle.std.proofs.Common.{arith, subst, sym, inl, inr, ◌∙◌}
use Rattle.std.proofs.lemmas.List.{get_or_default}
use Rattle.tc_link.specs.declared.farm.Report.{Report}
use Rattle.tc_judge.specs.Layer.{Has, IsMadeOf}
use Rattle.tc_judge.proofs.Flagged.{SomeBelow, none-below, more-below, one-below, not-below, all-below}
use Rattle.tc_judge.proofs.walk.advance.Goals.{then-layer-place, else-layer-place}
use Rattle.tc_judge.proofs.walk.advance.Goals as goal

pub loop-place-init : goal.loop-place-init
loop-place-init c = (c.requires.next, λ y. ((λ has. absurd (c.requires.empty y has)), (λ s. absurd (none-below (λ r. IsMadeOf c.args.rules.now c.args.frame r y) c.args.layer.now s))))

plus : {A B C D : Type 0} → (A ↔ (B ⊎ C)) → (B ↔ D) → A ↔ (D ⊎ C)
plus {A = A} {B = B} {C = C} {D = D} f g = ((λ a. there (f.0 a)), (λ s. f.1 (back s))) where
  there : B ⊎ C → D ⊎ C
  there (inl b) = inl (g.0 b)
  there (inr c) = inr c

  back : D ⊎ C → B ⊎ C
  back (inl d) = inl (g.1 d)
  back (inr c) = inr c

pub loop-place-preserved : goal.loop-place-preserved
loop-place-preserved c =
    let h : c.loop-place.place < length c.args.layer.now = omega arith in
    elim c.if-layer-place.branch [
      | then-layer-place w ↦
          let flag : slice_index_or c.args.layer.now c.loop-place.place false ≡ true = get_or_default c.args.layer.now c.loop-place.place false _ h ∙ w.if-layer-place.true in
          subst (λ next. (length next ≡ 8192) × ((y : Report) → Has next y ↔ SomeBelow (λ r. IsMadeOf c.args.rules.now c.args.frame r y) (c.loop-place.place + 1) c.args.layer.now)) (sym w.next-is) (
            w.deal.ensures.len,
            λ y.
                let made = plus (w.deal.ensures.made y) (c.loop-place.invariant.1 y) in
                let more = one-below (λ r. IsMadeOf c.args.rules.now c.args.frame r y) c.loop-place.place c.args.layer.now w.report_at.result w.report_at.ensures.place w.report_at.ensures.shown w.report_at.ensures.number flag in
                ((λ has. more.0 (made.0 has)), (λ s. made.1 (more.1 s))),
          )
      | else-layer-place w ↦
          let flag : slice_index_or c.args.layer.now c.loop-place.place false ≡ false = get_or_default c.args.layer.now c.loop-place.place false _ h ∙ w.if-layer-place.false in
          subst (λ next. (length next ≡ 8192) × ((y : Report) → Has next y ↔ SomeBelow (λ r. IsMadeOf c.args.rules.now c.args.frame r y) (c.loop-place.place + 1) c.args.layer.now)) (sym w.next-is) (
            c.loop-place.invariant.0,
            λ y. (
              (λ has. more-below (λ r. IsMadeOf c.args.rules.now c.args.frame r y) c.loop-place.place c.args.layer.now ((c.loop-place.invariant.1 y).0 has)),
              (λ s. (c.loop-place.invariant.1 y).1 (not-below (λ r. IsMadeOf c.args.rules.now c.args.frame r y) c.loop-place.place c.args.layer.now flag s)),
            ),
          )
    ]

pub returns-clause-next : goal.returns-clause-next
returns-clause-next c =
    let h : 8192 ≤ c.loop-place.place = omega (arith, c.requires.layer) in
    λ y. let all = all-below (λ r. IsMadeOf c.args.rules.now c.args.frame r y) c.loop-place.place c.args.layer.now h in
    ((λ has. all.0 ((c.loop-place.invariant.1 y).0 has)), (λ s. (c.loop-place.invariant.1 y).1 (all.1 s)))
