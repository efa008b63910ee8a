-- Types, definitions and lemmas that most proofs use, imported from one file.
pub use Rattle.std.proofs.BoxSteps.Form.{Bx, handle}
pub use Rattle.std.proofs.Common.{IsSome, None, Option, Some, [], refl, ◌≡◌}
pub use Rattle.tc_c_lines.specs.Place.{session_row}
pub use Rattle.tc_session.specs.declared.session.Session.{Session as SessionValue}
pub use denote.Signature.{Slot, mut_ref_to, plain}
pub use mir.Raw.{raw}
pub use mir.Syntax.{dnil, impl, named, tnil}
pub use types.Logic.{Logic, sem}
