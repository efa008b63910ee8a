-- Types, definitions and lemmas that most proofs use, imported from one file.
pub use Rattle.std.proofs.BoxSteps.Form.{Bx, handle}
pub use Rattle.std.proofs.Common.{IsSome, None, Option, Some, [], refl, ◌≡◌}
pub use Rattle.tc_c_judge.specs.Place.{judge_row}
pub use Rattle.tc_c_judge.specs.declared.held.HeldJudge.{HeldJudge as HeldValue}
pub use denote.Signature.{Slot, mut_ref_to, plain}
pub use mir.Raw.{raw}
pub use mir.Syntax.{dnil, impl, named, tnil}
pub use types.Logic.{Logic, sem}
