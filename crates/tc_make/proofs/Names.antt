-- Types, definitions and lemmas that most proofs use, imported from one file.
pub use Rattle.std.proofs.Common.{List, Option, [], ap, arith, drop, inl, inr, length, refl, subst, sym, ℕ, ◌++◌, ◌+◌, ◌<◌, ◌∙◌, ◌≡◌, ◌≤◌, ◌⊎◌}
pub use Rattle.std.proofs.KnownBytes.{Appends-nil}
pub use Rattle.std.proofs.lemmas.Grind.{flat_map-append}
pub use Rattle.std.proofs.lemmas.Result.{on_ok_weaker}
pub use Rattle.std.specs.Io.KnownBytes.{Appends}
pub use Rattle.tc_lines.specs.Answering.{Writes}
pub use Rattle.tc_make.specs.Answer.{IsEnded}
pub use Rattle.tc_make.specs.Printed.{bad_text, named_text, unit_packets_text}
pub use Rattle.tc_make.specs.declared.fault.Reason.{Reason}
pub use Rattle.tc_make.specs.declared.parting.Parting.{Parting}
