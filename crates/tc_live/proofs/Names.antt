-- Types, definitions and lemmas that most proofs use, imported from one file.
pub use Rattle.std.proofs.Common.{Bool, Err, IfSome, List, None, Ok, Option, Result, Some, [], ap, arith, drop, false, inl, inr, lit<, lit≤, refl, rules, subst, sym, take, true, ℕ, ◌++◌, ◌<◌, ◌∙◌, ◌∷◌, ◌≡◌, ◌≤◌, ◌⊎◌}
pub use Rattle.std.proofs.KnownBytes.{Appends-kept, Appends-trans}
pub use Rattle.std.proofs.lemmas.Bool.{both_ways, true≢false}
pub use Rattle.std.proofs.lemmas.List.Sorted.{All-permutation, IsNonDecreasingBy-from_sort_by_key}
pub use Rattle.std.specs.Fmt.{HasWritten, IsPlainFormatter}
pub use Rattle.std.specs.Io.KnownBytes.{Appends, Keeps}
pub use Rattle.std.specs.List.{flat_map}
pub use Rattle.std.specs.Prelude.{All, IfErr, IfOk, IsPermutation, IsTrue, MatchOption, OnOk, codes, not, ◌↔◌}
pub use Rattle.tc_live.specs.Hint.{first_misfit}
pub use Rattle.tc_live.specs.Printed.{live_text, map_text, queue_text}
pub use Rattle.tc_live.specs.Receiver.{IsBadCandidate, IsCandidateDone, IsCollectionBegun, IsDeliveryBegun, IsDeliveryDone, IsInstructed, IsLineDone, IsLiveLineAnswered, IsPassedDone, IsReady, Receiving, begun, collection_answer, new_receiver, rack_at, script_answer}
pub use Rattle.tc_live.specs.Serving.{IsClosingFault, IsFollowedBy, IsLineSaid, IsNumberUnreported, IsReceptionCutShort, IsReceptionWritten, IsReportWritten, IsReported, fault_at_lines, line_limit}
pub use Rattle.tc_live.specs.declared.answer.LiveAnswer.{LiveAnswer}
pub use Rattle.tc_live.specs.declared.check.FrameCheck.{FrameCheck}
pub use Rattle.tc_live.specs.declared.ends.FrameEnds.{FrameEnds}
pub use Rattle.tc_rack.specs.Delivery.{AreAnswersWritten, IsDeliveryEnded, reported_lines}
pub use Rattle.tc_rack.specs.Progress.{IsPerformed, Progress, rack_for}
pub use Rattle.tc_rack.specs.Rack.{Racked, histories}
pub use Rattle.tc_rack.specs.Stage.{phase_of}
pub use Rattle.tc_rack.specs.declared.answer.Answer.{Answer}
pub use Rattle.tc_rack.specs.declared.stage.Stage.{Stage}
pub use Rattle.tc_rack.specs.declared.stage.Stage.TheVariants.{Operating, SettingUp}
pub use Rattle.tc_rack.specs.Instruction.{instruction_of}
pub use Rattle.tc_rack.specs.Phase.{IsBad}
pub use Rattle.tc_text.specs.declared.live.LiveLine.TheVariants.{Candidate, Collect, Deliver, Link, Report, Script}
