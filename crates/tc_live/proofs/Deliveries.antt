-- A delivery or a collection is begun and ended on the channels of a receiver.
use Rattle.tc_live.proofs.Names.{◌≡◌, ℕ, List, Option, refl, sym, ap, ◌∙◌, subst, Answer, Stage, Operating, AreAnswersWritten, IsDeliveryEnded, Racked, Receiving, IsDeliveryBegun, IsDeliveryDone, IsCollectionBegun, collection_answer, begun, rack_for, LiveAnswer, FrameCheck, FrameEnds}
use Rattle.tc_rack.specs.declared.operation.Operation.TheVariants as operations
use Rattle.tc_rack.specs.Operation.{IsAnswerOf, IsClcwAnswer}
use Rattle.tc_live.specs.declared.answer.LiveAnswer.TheVariants as reported

pub release-reported : (old now : Receiving) (check : FrameCheck) (ends : FrameEnds) (scid : ℕ) (stage : Stage Racked) (rack after : Racked) (vcid : ℕ) (a : Answer)
    → now ≡ begun old → ◌≡◌ {A = Receiving} (record { check = check; ends = ends; scid = scid; stage = stage }) now → stage ≡ Operating rack → IsAnswerOf (operations.Release vcid) rack a after
    → IsDeliveryBegun old vcid (record { check = check; ends = ends; scid = scid; stage = Operating after }) (reported.Delivery vcid a)
release-reported old now check ends scid stage rack after vcid a is_begun view is answered =
    let same : rack ≡ rack_for old.scid old.stage = ap (rack_for old.scid) (sym is ∙ ap (λ (x : Receiving). x.stage) (view ∙ is_begun)) in
    (a, after, subst (λ r. IsAnswerOf (operations.Release vcid) r a after) same answered, refl, ap (λ (x : Receiving). record x { stage = Operating after }) (view ∙ is_begun))

pub collection-reported : (old now : Receiving) (check : FrameCheck) (ends : FrameEnds) (scid : ℕ) (stage : Stage Racked) (rack after : Racked) (vcid : ℕ) (a : Answer) (answer : LiveAnswer)
    → now ≡ begun old → ◌≡◌ {A = Receiving} (record { check = check; ends = ends; scid = scid; stage = stage }) now → stage ≡ Operating rack → IsAnswerOf (operations.Clcw vcid) rack a after
    → answer ≡ collection_answer vcid a → IsCollectionBegun old vcid (record { check = check; ends = ends; scid = scid; stage = Operating after }) answer
collection-reported old now check ends scid stage rack after vcid a answer is_begun view is answered reported_so =
    let same : rack ≡ rack_for old.scid old.stage = ap (rack_for old.scid) (sym is ∙ ap (λ (x : Receiving). x.stage) (view ∙ is_begun)) in (
      a,
      subst (λ r. IsClcwAnswer vcid r a) same answered.0,
      reported_so,
      ap (λ (x : Receiving). record x { stage = Operating after }) (view ∙ is_begun) ∙ ap (λ (r : Racked). record old { stage = Operating r }) (answered.1 ∙ same),
    )

pub handed-on : (old : Receiving) (check : FrameCheck) (ends : FrameEnds) (scid : ℕ) (stage : Stage Racked) (rack after : Racked) (vcid : ℕ) (a b : Option (List ℕ))
    → ◌≡◌ {A = Receiving} (record { check = check; ends = ends; scid = scid; stage = stage }) old → stage ≡ Operating rack → AreAnswersWritten a b (λ answers. IsDeliveryEnded vcid rack answers after)
    → AreAnswersWritten a b (IsDeliveryDone old vcid (record { check = check; ends = ends; scid = scid; stage = Operating after }))
handed-on old check ends scid stage rack after vcid a b view is (answers, ended, written) =
    let same : rack ≡ rack_for old.scid old.stage = ap (rack_for old.scid) (sym is ∙ ap (λ (x : Receiving). x.stage) view) in
    (answers, (after, subst (λ r. IsDeliveryEnded vcid r answers after) same ended, ap (λ (x : Receiving). record x { stage = Operating after }) view), written)
