use Rattle.std.specs.Prelude.{◌≡◌, ◌+◌, ◌<◌, ◌≤◌, ◌⊎◌, ◌↔◌, true, false, length, slice_index_or}
use Rattle.std.proofs.Common.{arith, subst, sym, refl, inl, inr, ◌∙◌}
use Rattle.std.proofs.lemmas.List.{get_or_default}
use Rattle.tc_link.specs.declared.farm.Report.{Report}
use Rattle.tc_judge.specs.Layer.{Has}
use Rattle.tc_judge.proofs.Flagged.{SomeBelow, none-below, more-below, one-below, not-below, all-below}
use Rattle.tc_judge.proofs.Places.{through}
use Rattle.tc_judge.proofs.Unions.{two, alike}
use Rattle.tc_judge.proofs.layer.unite.Goals.{then-layer-place, else-layer-place}
use Rattle.tc_judge.proofs.layer.unite.Goals as goal

pub loop-place-init : goal.loop-place-init
loop-place-init c = (c.requires.into, λ y. ((λ has. inl has), back y)) where
  back : (y : Report) → Has c.args.into.now y ⊎ SomeBelow (λ r. y ≡ r) 0 c.args.layer.now → Has c.args.into.now y
  back y (inl has) = has
  back y (inr s) = absurd (none-below (λ r. y ≡ r) c.args.layer.now s)

pub loop-place-preserved : goal.loop-place-preserved
loop-place-preserved c =
    let h : c.loop-place.place < length c.args.layer.now = omega arith in
    elim c.if-layer-place.branch [
      | then-layer-place w ↦
          let flag : slice_index_or c.args.layer.now c.loop-place.place false ≡ true = get_or_default c.args.layer.now c.loop-place.place false _ h ∙ w.if-layer-place.true in
          subst (λ into. (length into ≡ 8192) × ((y : Report) → Has into y ↔ (Has c.args.into.now y ⊎ SomeBelow (λ r. y ≡ r) (c.loop-place.place + 1) c.args.layer.now))) (sym w.into-is) (
            w.add.ensures.len,
            λ y. alike (two (w.add.ensures.layer y) (c.loop-place.invariant.1 y))
                (one-below (λ r. y ≡ r) c.loop-place.place c.args.layer.now w.report_at.result w.report_at.ensures.place w.report_at.ensures.shown w.report_at.ensures.number flag),
          )
      | else-layer-place w ↦
          let flag : slice_index_or c.args.layer.now c.loop-place.place false ≡ false = get_or_default c.args.layer.now c.loop-place.place false _ h ∙ w.if-layer-place.false in
          subst (λ into. (length into ≡ 8192) × ((y : Report) → Has into y ↔ (Has c.args.into.now y ⊎ SomeBelow (λ r. y ≡ r) (c.loop-place.place + 1) c.args.layer.now))) (sym w.into-is) (
            c.loop-place.invariant.0,
            λ y. alike (c.loop-place.invariant.1 y) (
              (λ s. more-below (λ r. y ≡ r) c.loop-place.place c.args.layer.now s),
              (λ s. not-below (λ r. y ≡ r) c.loop-place.place c.args.layer.now flag s),
            ),
          )
    ]

pub returns-clause-united : goal.returns-clause-united
returns-clause-united c =
    let h : 8192 ≤ c.loop-place.place = omega (arith, c.requires.layer) in
    λ y. alike (c.loop-place.invariant.1 y) (through (all-below (λ r. y ≡ r) c.loop-place.place c.args.layer.now h)
    ((λ s. subst (λ r. Has c.args.layer.now r) (sym s.2) s.1), (λ has. (y, has, refl))))
