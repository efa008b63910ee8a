use Rattle.std.specs.Prelude.{◌≡◌, ◌<◌, false, length, slice_index_or}
use Rattle.std.proofs.Common.{arith, sym, ◌∙◌}
use Rattle.std.proofs.lemmas.List.{get_or_default}
use Rattle.tc_judge.specs.Account.{Explains}
use Rattle.tc_judge.proofs.Places.{through}
use Rattle.tc_judge.proofs.Trimmed.{trim-on}
use Rattle.tc_judge.proofs.judge.trim.Goals as goal

pub loop-marks-preserved : goal.loop-marks-preserved
loop-marks-preserved c =
    let h : 0 < length c.loop-marks.way.items = omega arith in
    let m : 0 < length c.loop-marks.marks.items = omega (arith, c.loop-marks.invariant.0) in
    let off : slice_index_or c.loop-marks.marks.items 0 false ≡ false = get_or_default c.loop-marks.marks.items 0 false _ m ∙ sym c.index.ensures ∙ c.if-index.false in (
      omega (arith, c.loop-marks.invariant.0, c.remove-mark.ensures.len, c.remove-frame.ensures.len),
      omega (arith, c.loop-marks.invariant.1, c.remove-frame.ensures.len),
      c.remove-frame.ensures.capacity ∙ c.loop-marks.invariant.2,
      c.remove-mark.ensures.capacity ∙ c.loop-marks.invariant.3,
      λ rules r items. through
          (trim-on (λ way. Explains rules way r items) c.loop-marks.marks.items c.remove-mark.new.self.items c.loop-marks.way.items c.remove-frame.new.self.items
          h m off c.remove-mark.ensures.items c.remove-frame.ensures.items)
          (c.loop-marks.invariant.4 rules r items),
    )
