-- Types, definitions and lemmas that most proofs use, imported from one file.
pub use Rattle.std.proofs.Common.{◌/◌}
pub use Rattle.std.proofs.Math.Seq.{drop-append_seam, take-append_seam}
pub use Rattle.std.proofs.lemmas.Grind.{flat_map-append}
pub use Rattle.std.proofs.lemmas.List.{length-take-le, take_at, take-map, take-append-drop, take-append-le, take-take, length_push, drop_all, nil_from_length}
pub use Rattle.std.proofs.lemmas.Option.{slice_get-map, slice_get_within}
pub use Rattle.std.specs.Prelude.{max, nat_le}
pub use Rattle.tc_channel.proofs.Eras.{accepted-kept, all-sent, era-law, flags-at_E1, number-at_E1, only_S1}
pub use Rattle.tc_channel.proofs.Names.{option_map, Accepted, Ahead, All, AllPairs, Behind, Bool, ChannelState, Command, E1, E10, E8, Expected, HasStep, IsAllowed, IsSome, IsTrue, IsWhole, List, None, Option, Outside, Place, Report, Row, S1, S2, S3, SetVr, Some, State, Unlock, [], accepts, after_frame, ap, append-nil, append_assoc, arith, buffer, command_of, cond, control_kind, drop, entry, entry_at, eq-eqb, false, frame_row, has_room, header_of, inl, inr, kind_by, kind_of, length, length-append, length-drop, length-map, map, nat_lt, nat_tests, place_of, refl, row_at, row_of, run_from, slice_get, step, subst, suc, sym, take, take_all, true, unwrap_or, zero, ℕ, ◌%◌, ◌&&◌, ◌*◌, ◌++◌, ◌+◌, ◌-◌, ◌<◌, ◌↔◌, ◌∙◌, ◌∷◌, ◌≡◌, ◌≢◌, ◌≤◌, ◌⊎◌, length-take, drop-append-le}
unfoldable pub use Rattle.tc_channel.proofs.Names.{IsLawfulWithin, clcw_within, no_limits, passed_on, run_within}
pub use Rattle.tc_channel.proofs.Runs.{lawful-before, lawful-push, run-append, run-push}
pub use Rattle.tc_channel.proofs.Small.{vr-below}
pub use Rattle.tc_channel.proofs.Sound.{state-sound}
pub use Rattle.tc_channel.proofs.Through.{passed-as-sent}
pub use Rattle.tc_channel.specs.Era.{ComesFromWithin, IsEraWithin, IsOfSender, NoneSetsWithin, accepted_since_within, set_at, set_by}
pub use Rattle.tc_channel.specs.Laws.{IsSound}
pub use Rattle.tc_channel.specs.Run.{after_release, field_of}
pub use Rattle.tc_channel.specs.Through.{passed_since, released_since, sent_from}
pub use Rattle.tc_link.proofs.Frames.{octets-append, octets-cons}
pub use Rattle.tc_link.proofs.Places.{ahead, behind, outside}
pub use Rattle.tc_link.specs.Clcw.{fields_of, word_of}
pub use Rattle.tc_link.specs.Farm.{E5}
pub use Rattle.tc_link.specs.Frame.{IsOctets}
unfoldable pub use Rattle.tc_link.specs.Window.{some_of_first}
pub use Rattle.tc_link.specs.declared.Kind.TheVariants.{Bc}
pub use Rattle.tc_link.specs.declared.Link.{Link}
pub use Rattle.tc_laws.specs.Loops.Examples.{acknowledged, around, by_bd, learnt_by_9, plain_start, trap}
pub use Rattle.tc_laws.specs.Loops.Loop.{Action, Arrive, events_at, GoesOn, GoesOnBy, Hear, Idle, IsKnownSo, IsLoop, IsNumbered, IsOther, IsSession, KeepOrder, LocksOut, Loop, Other, Send, above, accepted, begun, begun_from, events, heard, journal, known, known_from, last_of, new_loop, receiver, releases, reported, round, sends, sent, smallest}
pub use Rattle.tc_laws.specs.Loops.Start.{IsObeyed, IsStart, NamesAnother, Start, action_before, era, era_action, era_actions, era_before, era_session, known_since, session_before}
pub use Rattle.tc_laws.specs.Loops.Watched.{event_at, is_here_or_ahead, is_here_or_behind}
pub use Rattle.std.proofs.lemmas.Bool.{cases_lt, cases_order, cases_eq}
pub use Rattle.std.proofs.lemmas.List.Elements.{All-cons, All-nil}
pub use Rattle.tc_channel.specs.declared.event.Event.{Event}
pub use Rattle.tc_channel.specs.declared.event.Event.TheVariants.{Frame, Release, Take, TakeUnit}
pub use Rattle.tc_queues.specs.declared.settings.MapSetting.{MapSetting}
pub use Rattle.tc_queues.specs.declared.settings.QueueSetting.{QueueSetting}
pub use Rattle.tc_queues.specs.declared.settings.Settings.{Settings}
