-- Notations, lemmas of std, types and definitions that most proofs use, imported from one file. `Ad` and `Bd` are the
-- services, `header_of` is the header of a frame, and `place_of` is the place of a frame's number in the window.
pub use Rattle.std.proofs.Common.{vec_capacity, vec_len, ◌%◌}
pub use Rattle.std.proofs.lemmas.List.{drop-append-le, drop-drop, length-drop, map-append}
pub use Rattle.std.proofs.lemmas.List.Elements.{filter-append, filter_map-append}
pub use Rattle.std.specs.List.{All, filter_map}
pub use Rattle.std.specs.Prelude.{unwrap_or}
pub use Rattle.tc_channel.specs.Channel.{AreRuns, EndsAtOnceWithin, EndsWithin, FollowsKindWithin, FollowsWithin, HoldsWithin, Inside}
pub use Rattle.tc_channel.specs.Given.{as_list, packets_given, units_given}
pub use Rattle.tc_channel.specs.Reply.{delivery_of}
unfoldable pub use Rattle.tc_channel.specs.Reply.{clcw_within}
pub use Rattle.tc_channel.specs.Run.{HasStep, after_frame, first_of, kept, row_of, run_from, step, taken_from, unit_of}
unfoldable pub use Rattle.tc_channel.specs.Run.{IsLawfulWithin, passed_on, run_within}
pub use Rattle.tc_channel.specs.declared.event.Event.{Event}
pub use Rattle.tc_channel.specs.declared.event.Event.TheVariants.{Frame, Release, Take, TakeUnit}
pub use Rattle.tc_link.specs.Command.{command_of, control_kind, kind_by, kind_of}
pub use Rattle.tc_link.specs.Farm.{E1, E10, E6, E8, Row, accepts, after, entry, entry_at, frame_row, number_of, row_at}
pub use Rattle.tc_link.specs.Frame.{IsWhole, header_of}
pub use Rattle.tc_link.specs.Window.{place_of}
pub use Rattle.tc_link.specs.declared.Command.{Command}
pub use Rattle.tc_link.specs.declared.Command.TheVariants.{SetVr, Unlock}
pub use Rattle.tc_link.specs.declared.Kind.{Kind}
pub use Rattle.tc_link.specs.declared.Place.{Place}
pub use Rattle.tc_link.specs.declared.Place.TheVariants.{Ahead, Behind, Expected, Outside}
pub use Rattle.tc_link.specs.declared.Report.{Report}
pub use Rattle.tc_link.specs.declared.State.{State}
pub use Rattle.tc_link.specs.declared.State.TheVariants.{S1, S2, S3}
pub use Rattle.tc_packet.specs.Reassembly.{IsWithinLimit, OpenRuns, Passed, at_most, ended_by, is_of, largest_unit, open_run, run_at, run_left, same_service, stream, stream_place, unit_ended}
pub use Rattle.tc_packet.specs.Store.{IsAtMost, Store, limit_at, open_runs}
pub use Rattle.tc_packet.specs.declared.Service.{Service}
pub use Rattle.tc_packet.specs.declared.Service.TheVariants.{Ad, Bd}
pub use Rattle.tc_packet.specs.declared.segment.Part.{Part}
pub use Rattle.tc_queues.proofs.Names.{AllByRecursion, AllPairs, Any, AreCommitted, AreDistinct, AreShares, Bool, Fit, IsDelivered, IsSome, IsTrue, Keyed, List, None, Option, Placed, Some, StoredQueue, [], ap, apid_of, append-nil, append_assoc, arith, common_steps, cond, copies_from, delivered, drop, empty_queue, empty_unit_queue, eq-eqb, eqb, eqb_tells, false, filter, get_or, get_or-map, inl, inr, is_for, is_of_map, is_some, is_telecommand, joined, keys_of, length, length-append, length-map, length-take, map, map-map, map-set_same, map_push, nat_lt, nat_tests, ne_eqb, oldest_for, option_and_then, option_map, packets_of, placed, popped, put_all, queue_for, refl, replicate, rest_of, ring_in, rings_in, room_sizes, share, shared, shares_in, shorter, slice_get, stored, subst, suc, sum_by, sum_by-cons, sym, take, take-nil, take_all, take_more, true, with_items, zero, ℕ, ◌&&◌, ◌*◌, ◌++◌, ◌+◌, ◌-◌, ◌<◌, ◌↔◌, ◌∙◌, ◌∷◌, ◌≡◌, ◌≢◌, ◌≤◌, ◌⊎◌}
pub use Rattle.tc_queues.specs.Admission.{is_chosen, map_of, packets_offered, queued_of, room_of, share_of, units_offered, with_share, with_shares}
pub use Rattle.tc_queues.specs.ChannelState.{Accepted, ChannelState, Queue, buffer, first_state_within, has_room, queue_of, waiting}
unfoldable pub use Rattle.tc_queues.specs.ChannelState.{no_limits}
pub use Rattle.tc_queues.specs.Rooms.{Slotted}
pub use Rattle.tc_queues.specs.Settings.{IsAllowed}
pub use Rattle.tc_queues.specs.declared.reply.Delivery.{Delivery}
pub use Rattle.tc_queues.specs.declared.settings.MapSetting.{MapSetting}
pub use Rattle.tc_queues.specs.declared.settings.QueueSetting.{QueueSetting}
pub use Rattle.tc_queues.specs.declared.settings.Settings.{Settings}
