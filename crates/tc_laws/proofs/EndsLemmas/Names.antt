-- Re-exports the types, definitions and lemmas that most proofs about these laws use, so that a proof imports them from here.
pub use Rattle.std.proofs.lemmas.Bool.{eqb-true, le-leb, cases_Bool}
pub use Rattle.std.proofs.lemmas.Grind.{flat_map-append}
pub use Rattle.std.proofs.lemmas.List.{get_or-append_right, get_or_append_left, get_or_at}
pub use Rattle.std.specs.List.{concat, flat_map}
pub use Rattle.std.specs.Prelude.{if◌then◌else◌, is_some, nat_lt}
pub use Rattle.tc_channel.proofs.Given.{released-within}
pub use Rattle.tc_queues.proofs.Lists.{all-append}
pub use Rattle.tc_channel.proofs.Names.{Ad, AllByRecursion, Bd, Bool, IsWhole, List, None, Option, Part, Passed, Queue, Service, Some, [], ap, append-nil, append_assoc, arith, as_list, at_most, common_steps, cond, drop, eq-eqb, eqb, eqb_tells, false, filter, filter-append, first_state_within, get_or, get_or-map, inl, inr, is_for, is_of, joined, length, length-append, length-drop, length-map, length-take, map, map-append, map_of, nat_tests, ne_eqb, packets_given, packets_of, packets_offered, queue_of, refl, rest_of, same_service, stream, subst, suc, sym, take, true, units_given, units_offered, zero, ℕ, ◌%◌, ◌&&◌, ◌*◌, ◌++◌, ◌+◌, ◌-◌, ◌<◌, ◌∙◌, ◌∷◌, ◌≡◌, ◌≢◌, ◌≤◌, ◌⊎◌}
unfoldable pub use Rattle.tc_channel.proofs.Names.{IsLawfulWithin, no_limits, passed_on, run_within}
pub use Rattle.tc_channel.proofs.Streams.{same_map, stream-other, stream-same}
pub use Rattle.tc_channel.proofs.Through.{packets-given-of-made, units-given-of-made}
pub use Rattle.tc_channel.specs.Account.{unit_on}
pub use Rattle.tc_channel.specs.Given.{fields_passed}
pub use Rattle.tc_queues.specs.Settings.{HasMapsByHeaders}
pub use Rattle.tc_channel.specs.Through.{IsPartOf, all_made, is_chosen_by, packets_ended, packets_made, unit_made, units_ended, units_made}
pub use Rattle.tc_edges.proofs.CltuLemmas.Decoding.{after-fits, filled-fits, filled-front, some-octets}
pub use Rattle.tc_edges.proofs.CltuLemmas.Starting.{first-far, idle-far, start-far, start-same}
pub use Rattle.tc_edges.proofs.CltuLemmas.Taking.{taken}
pub use Rattle.tc_edges.specs.Cltu.Cltu.{cltu_fault_of, fill, filled, most_octets}
pub use Rattle.tc_edges.specs.Cltu.CodeBlock.{IsInformation, errors}
unfoldable pub use Rattle.tc_edges.specs.Cltu.CodeBlock.{block_times_x, decoded}
pub use Rattle.tc_edges.specs.Cltu.Reception.{Decoding, HasNoStart, Reception, Searching, Step, after_block, frames_of, idle, is_start, reception_step, state_after}
pub use Rattle.tc_edges.specs.declared.cltu.block.Mode.{Mode}
pub use Rattle.tc_edges.specs.declared.cltu.block.Mode.TheVariants.{Correct}
pub use Rattle.tc_laws.specs.Ends.Arrivals.{AltersNothing, AreBrought, AreCarriedOrLost, AreEventsAt, AreEventsOf, AreNearBlocks, ArePassed, AreTakenOut, Asks, CarriesWell, Coming, IsCarriedOrLost, IsLost, IsNearCltu, LinkEnd, Octets, all_enclosed, enclosed, events_of, state_behind}
pub use Rattle.tc_laws.specs.Ends.Ends.{AreAllPackets, AreFramesOf, AreFrom, AreGivenOf, AreMerged, AreNumbered, AreWritten, CanBeSent, CarrySent, CarryUnits, EndAtLast, IsSendable, OnStream, PacketsSent, SendsOnly, SendsPackets, Sent, UnitSent, all_joined, behind_ad, fields_in_order, is_chosen_map, is_from, is_in, is_same_stream, joined_on, map_in, on_map, packet_on, packets_for, packets_in_era, packets_sent_on, packets_to, passed_before, passed_in, stream_in, stream_unit, units_ended_by, units_on, unless_chosen, until_ad}
pub use Rattle.tc_laws.specs.Ends.Examples.{correcting, enclosing, first_frame, first_header, in_cltus, in_small_segments, of_before, of_both, of_nothing, of_set_v_r, of_wrong, one_unit, packet, with_wrong_field}
pub use Rattle.tc_edges.proofs.FecfLemmas.Delimiting.{one-frame, only-frames}
pub use Rattle.tc_edges.proofs.FecfLemmas.Plain.{frame_with_field-alike, frame_with_field-frame, frame_with_field-passes}
pub use Rattle.tc_edges.specs.Fecf.Candidate.{is_fill}
unfoldable pub use Rattle.tc_edges.specs.Fecf.Checksum.{octet_bits, times_x}
pub use Rattle.tc_edges.specs.Fecf.Checksum.{checksum_of}
unfoldable pub use Rattle.tc_edges.specs.Fecf.FrameWithField.{frame_with_field, octets_before_field}
pub use Rattle.tc_link.specs.Frame.{fault_of}
pub use Rattle.tc_link.specs.declared.frame.Header.{Header}
pub use Rattle.tc_laws.proofs.LoopsLemmas.Counted.{begins, comes, known-so}
pub use Rattle.tc_laws.proofs.LoopsLemmas.Actions.{so-at}
pub use Rattle.tc_laws.proofs.LoopsLemmas.Names.{events_at, drop_all, take_at, cases_lt, nil_from_length, Action, Arrive, ComesFromWithin, Hear, Idle, IsEraWithin, IsLoop, IsStart, Loop, Other, Send, Start, accepted, begun, era, era_session, events, field_of, journal, learnt_by_9, passed-as-sent, receiver, released_since, sent, sent_from, ◌/◌, Event, Frame, Release, Settings, Take, TakeUnit}
unfoldable pub use Rattle.tc_laws.proofs.LoopsLemmas.Names.{some_of_first}
pub use Rattle.tc_laws.proofs.LoopsLemmas.Onward.{whole}
pub use Rattle.tc_laws.proofs.LoopsLemmas.Started.{is-loop, journal-whole}
pub use Rattle.tc_laws.proofs.LoopsLemmas.Starts.{each-premise, octets-by, small, whole-0, whole-1, whole-2, whole-bd}
pub use Rattle.tc_laws.specs.Loops.Examples.{around, by_bd}
pub use Rattle.tc_packet.proofs.Cuts.{only-cut}
pub use Rattle.tc_packet.proofs.Streams.{is-unit}
pub use Rattle.tc_packet.specs.Reassembly.{IsPart, unit_at}
pub use Rattle.tc_packet.specs.Segment.{body_of}
pub use Rattle.tc_packet.specs.SpacePacket.{IsPacket}
pub use Rattle.tc_packet.specs.declared.segment.Part.TheVariants.{Continuing, First, Last, Unsegmented}
pub use Rattle.tc_packet.specs.declared.segment.Segment.{Segment}
pub use Rattle.tc_edges.specs.Write.Frames.{Carries, IsMadeFrame, header_later}
pub use Rattle.tc_edges.specs.Write.Parts.{part_at, piece_at, segment_at, segments_needed}
pub use Rattle.tc_edges.specs.Write.Segments.{AreSegments, MakeUnit}
pub use Rattle.std.proofs.lemmas.List.Elements.{recursion_from_All, All-from_get_or}
