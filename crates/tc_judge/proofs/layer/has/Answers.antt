use Rattle.std.specs.Prelude.{◌<◌, IsTrue, false, slice_index_or}
use Rattle.std.proofs.Common.{arith, subst, sym}
use Rattle.tc_judge.proofs.layer.has.Goals as goal

pub returns : goal.returns
returns c =
    let v : c.args.x.vr < 256 = omega arith in (
      (λ t. record { shown = c.requires.shown; number = v; flag = subst (λ k. IsTrue (slice_index_or c.args.layer.now k false)) c.place.ensures.place t }),
      (λ h. subst (λ k. IsTrue (slice_index_or c.args.layer.now k false)) (sym c.place.ensures.place) h.flag),
    )
