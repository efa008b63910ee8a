-- Notations, lemmas of std, types and definitions that most proofs use, under one name.
pub use Rattle.std.proofs.Common.{Bool, List, None, Option, Some, [], ap, append_assoc, arith, cond, drop, eqb, false, filter, get_or, inl, inr, length, map, nat_lt, refl, replicate, subst, suc, sym, take, true, zero, ℕ, ◌&&◌, ◌*◌, ◌++◌, ◌+◌, ◌-◌, ◌<◌, ◌∙◌, ◌∷◌, ◌≡◌, ◌≢◌, ◌≤◌, ◌⊎◌}
pub use Rattle.std.proofs.Math.ListN.{set}
pub use Rattle.std.proofs.Math.Seq.{map-set_same, take-nil}
pub use Rattle.std.proofs.lemmas.Bool.{cases_eq, eq-eqb, ne_eqb}
pub use Rattle.std.proofs.lemmas.Bool.Decides.{eqb_tells, nat_tests}
pub use Rattle.std.proofs.lemmas.Grind.{common_steps}
pub use Rattle.std.proofs.lemmas.List.{append-nil, get_or-map, get_or-replicate, get_or-set_other, get_or-set_same, get_or_default, length-append, length-map, length-replicate, length-set, length-take, map-set, map_push, take_all, take_more}
pub use Rattle.std.proofs.lemmas.List.Edits.{map_over_more}
pub use Rattle.std.proofs.lemmas.List.Sums.{sum_by-cons}
pub use Rattle.std.specs.Box.{boxed_slice_items}
pub use Rattle.std.specs.List.{AllByRecursion, sum_by}
pub use Rattle.std.specs.Option.{option_and_then}
pub use Rattle.std.specs.Prelude.{AllPairs, Any, IsSome, IsTrue, is_some, option_map, slice_get, ◌↔◌}
pub use Rattle.tc_packet.specs.Room.{Contents, contents_of}
pub use Rattle.tc_packet.specs.SpacePacket.{apid_of, is_telecommand, joined, packets_of, rest_of}
pub use Rattle.tc_queues.specs.Admission.{is_for, is_of_map}
pub use Rattle.tc_queues.specs.ChannelState.{empty_queue, empty_unit_queue}
pub use Rattle.tc_queues.specs.Delivering.{AreStagedOf, IsAmong, IsDelivered, IsOnItsWay, room_at, delivered}
pub use Rattle.tc_queues.specs.Keyed.{AreCommitted, Fit, Keyed, all_staged_in, staged_in, roll_back, ring_in, rings_in, room_sizes, committed}
pub use Rattle.tc_queues.specs.Places.{AreFirst, IsFirst}
pub use Rattle.tc_queues.specs.Rooms.{slotted, AreSlots}
pub use Rattle.tc_queues.specs.Steps.{looks, pass_steps}
pub use Rattle.tc_queues.specs.StoredQueues.{AreDistinct, AreShares, StoredQueue, Placed, copied_to, copies_from, stored, keys_of, longer, oldest_for, placed, popped, put, put_all, queue_for, room_in, share, shared, shares_in, shorter, with_items}
pub use Rattle.tc_queues.specs.declared.reply.Delivery.{Delivery}
pub use Rattle.tc_queues.specs.declared.settings.MapSetting.{MapSetting}
pub use Rattle.tc_queues.specs.declared.settings.QueueSetting.{QueueSetting}
pub use mathlib.Core.List.{map-map}
