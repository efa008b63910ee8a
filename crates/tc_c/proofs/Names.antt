-- Types, definitions and lemmas that most proofs use, imported from one file.
pub use Rattle.std.proofs.BoxSteps.Form.{Bx, handle}
pub use Rattle.std.proofs.Common.{Bool, Err, IfNone, IfSome, IsSome, List, None, Ok, OnSome, Option, Result, Some, [], ap, append_assoc, arith, drop, false, get_or, if◌then◌else◌, inl, length, length-append, refl, rules, set, sym, take, true, ℕ, ◌*◌, ◌++◌, ◌+◌, ◌-◌, ◌/◌, ◌<◌, ◌∙◌, ◌∷◌, ◌≡◌, ◌≢◌, ◌≤◌}
pub use Rattle.std.proofs.Math.Seq.{drop-append-add, drop-append_seam, map-set_same}
pub use Rattle.std.proofs.lemmas.Grind.{common_steps}
pub use Rattle.std.proofs.lemmas.List.{drop-set-add, drop-take, get_or-map, length-drop, length-map, length-take-le, map-set, take-append-drop, take-set-le, take-take, take_all, take_at, take_more_set}
pub use Rattle.std.specs.Prelude.{option_map, slice_get}
pub use Rattle.tc_c.specs.Decoder.{reception_of}
pub use Rattle.tc_c.specs.Farm.{IsFarm, agrees, farm_of, first_farm, is_width, left, report_of, with_ok}
pub use Rattle.tc_c.specs.Place.{channel_row}
pub use Rattle.tc_c.specs.Rack.{IsFirstWithVcid, IsHeld, IsHeldAt, channels_in, rack_reply, replied}
pub use Rattle.tc_c_base.specs.declared.status.Status.TheVariants.{BadWidth}
pub use Rattle.tc_channel.specs.Reply.{frame_reply_within}
pub use Rattle.tc_edges.proofs.CltuLemmas.Decoding.{block-counted, block-frames, block-state, counted-append, frames-append, one-counted, state-append}
pub use Rattle.tc_edges.specs.Cltu.Cltu.{cltu, code_blocks, filled, start_sequence, tail_sequence}
pub use Rattle.tc_edges.specs.Cltu.CodeBlock.{code_block, decoded}
pub use Rattle.tc_edges.specs.Cltu.Reception.{Decoding, Reception, Step, after_block, corrected_in, corrections_of, counted_in, fate_after, fate_of, frames_of, overlong_in, overruns_of, reception_step, rejected_in, rejections_of, state_after}
pub use Rattle.tc_fixed.specs.History.{LimitedHistory, with_limited_event}
pub use Rattle.tc_fixed.specs.Limits.{limit_of}
pub use Rattle.tc_link.specs.Farm.{E10, Machine, entry, entry_at, first_report, row_of}
pub use Rattle.tc_link.specs.Frame.{BeginsWith, header_of}
pub use Rattle.tc_link.specs.declared.farm.Report.{Report}
pub use denote.Signature.{Slot, mut_ref_to, plain}
pub use lib.Dec.{eqb, ltb}
pub use mir.Raw.{raw}
pub use mir.Syntax.{dnil, impl, named, tnil}
pub use types.Logic.{Logic, sem}
