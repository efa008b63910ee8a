use Rattle.std.specs.Prelude.{◌≡◌, Bool, false, replicate, slice_index_or}
use Rattle.std.proofs.Common.{ap, ◌∙◌}
use Rattle.std.proofs.lemmas.List.{get_or-replicate}
use Rattle.tc_judge.specs.Layer.{place_in_layer}
use Rattle.tc_judge.proofs.Flagged.{place-bound}
use Rattle.tc_judge.proofs.shown.ShownSet.new.Goals as goal

pub returns : goal.returns
returns c = λ r has.
    let flags : c.in_ok-vec.field-0.items ≡ replicate {A = Bool} 8192 false = c.in_ok-vec.ensures.items_if_clones_equal (λ y e. e) in
    let off : slice_index_or c.in_ok-vec.field-0.items (place_in_layer r) false ≡ false
    = ap (λ xs. slice_index_or xs (place_in_layer r) false) flags ∙ get_or-replicate 8192 (place_in_layer r) false false (place-bound r has.shown has.number) in
    absurd (cc (has.flag, off))
