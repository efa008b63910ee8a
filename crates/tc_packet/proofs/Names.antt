-- The types, definitions and lemmas from elsewhere that most proofs use, collected in one module.
pub use Rattle.std.proofs.Math.Seq.{map-set_same}
pub use Rattle.std.proofs.lemmas.Bool.Decides.{nat_tests}
pub use Rattle.std.proofs.lemmas.Grind.{common_steps}
pub use Rattle.std.proofs.lemmas.List.{length-append}
pub use Rattle.std.specs.Box.{boxed_slice_items}
pub use Rattle.std.specs.List.{AllByRecursion}
pub use Rattle.tc_packet.specs.OpenRun.{open_in}
pub use Rattle.tc_packet.specs.Reassembly.{OpenRuns, all_continue, bounded, extended, from_last_first, is_continuing, is_first, open_run, run_at, run_of, stream_place}
pub use Rattle.tc_packet.specs.Room.{Contents}
pub use Rattle.tc_packet.specs.Runs.{next_run}
pub use Rattle.tc_packet.specs.Segment.{body_of, header_of}
pub use Rattle.tc_packet.specs.Store.{IsAtMost, LeaveWithin, Store, sizes_of}
pub use Rattle.tc_packet.specs.declared.segment.Part.{Part}
pub use Rattle.tc_packet.specs.declared.segment.Part.TheVariants.{Continuing, First, Last, Unsegmented}
