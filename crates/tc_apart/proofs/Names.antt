-- Types, definitions and lemmas that most proofs use, imported from one file.
pub use Rattle.logged_lock.specs.Log.{owned, IsBeginning}
pub use Rattle.std.proofs.lemmas.Bool.{eqb-false, cases_order, cases_lt}
pub use Rattle.std.specs.Prelude.{if◌then◌else◌, slice_set, ◌==◌, codes, slice_index_or}
pub use Rattle.tc_apart.specs.Apart.{Answered, ArePerformed, HasPerformed, LeadsTo, answers_frame, is_on, is_own, operation_in, operation_of, operations_of, with_answer}
pub use Rattle.tc_channel.proofs.Names.{Bool, List, Some, [], ap, arith, false, filter, get_or, inl, inr, length, map, option_and_then, refl, slice_get, subst, suc, sym, take, true, zero, ℕ, ◌++◌, ◌+◌, ◌<◌, ◌∙◌, ◌∷◌, ◌≡◌, ◌≢◌, ◌⊎◌, Option, None, append-nil, append_assoc, map-append, length-append, length-map}
unfoldable pub use Rattle.tc_channel.proofs.Names.{no_limits, run_within, IsLawfulWithin, clcw_within, passed_on}
pub use Rattle.tc_cli.proofs.Determined.{AreApart, IsIdKept, all-apart, frame-determined, frame-kept, operation-ids, rack-ids, release-determined, release-kept, same-at, take-determined, take-kept, unit-determined, unit-kept}
pub use Rattle.tc_cli.proofs.Happened.{IsOneAtMost}
pub use Rattle.tc_cli.proofs.Lists.{any-here, mapped-at, set-elsewhere, set-there, unmapped}
pub use Rattle.tc_cli.proofs.Names.{Answer, AreAnswers, AreClosedTogether, AtLock, AtStation, BeginsWith, Changes, Does, HasChannel, History, Identity, IsAnswerOf, IsChannelAnswer, IsClcwAnswer, IsDoneSo, IsFrameAnswer, IsFrameAnswered, IsInstructionAnswered, IsMergeOf, IsPerformed, IsReleaseAnswered, IsTakeAnswered, IsUnitAnswered, Linked, Operating, Operation, Own, Progress, Racked, Roster, SettingUp, at_first, column, eqb-true, get_or_from_slice_get, header_of, heads_of, instruction_of, made_by, new_linked, new_rack, one_more, operator_lists_of, phase_of, rack_for, reported_word, same_Some, settings_in, vcid_of}
pub use Rattle.tc_cli.proofs.Scripts.{set-up}
pub use Rattle.tc_desk.specs.Log.{accounts_of, Moment, history_of}
pub use Rattle.tc_laws.proofs.EndsLemmas.Started.{packets-of-loop}
pub use Rattle.tc_laws.specs.Ends.Ends.{AreGivenOf, units_on, AreFrom, AreNumbered, CanBeSent, SendsOnly, UnitSent}
pub use Rattle.tc_laws.proofs.LoopsLemmas.Counted.{passed-on, clcw-shows, get-append, journal-append}
pub use Rattle.tc_laws.proofs.LoopsLemmas.Names.{journal, passed_since, released_since, sent, sent_from, slice_get_within, Event, Settings, flat_map-append}
pub use Rattle.tc_rack.proofs.Performed.{performed-at}
pub use Rattle.tc_rack.specs.Rack.{AreChannelsApart, IsChannelAt, IsOf}
pub use Rattle.tc_rack.specs.declared.operation.Operation.TheVariants.{Clcw}
pub use Rattle.tc_station.proofs.ClosedSince.{owned_desk-there}
pub use Rattle.tc_text.specs.declared.line.Line.{Line}
pub use Rattle.logged_lock.proofs.Owned.{owned-other, owned-own}
pub use Rattle.std.proofs.Common.{Err, Ok, drop, unwrap_or, ◌-◌, ◌≤◌}
pub use Rattle.std.proofs.Math.Seq.{drop-append_seam}
pub use Rattle.std.proofs.lemmas.Bool.Decides.{eqb_tells}
pub use Rattle.std.proofs.lemmas.List.{take-append-drop, take-map, take_all}
pub use Rattle.std.proofs.lemmas.List.Elements.{All-cons, All-nil}
pub use Rattle.std.proofs.lemmas.Option.{none-some, unwrap_or-slice_get}
pub use Rattle.std.specs.List.{AllByRecursion, flat_map}
pub use Rattle.tc_apart.specs.Threads.{Bringer, BringsAll, Course, HasActed, HasMade, HasMadeNone, HaveActed, IsCourse, IsEraOf, IsFilledIn, IsLoopAt, Turn, action_of, actions_of, learnt, learnt_from, moved, read_at, thread_after, thread_at, thread_behind, word_read}
pub use Rattle.tc_channel.proofs.Runs.{lawful-before}
pub use Rattle.tc_channel.proofs.Small.{vr-below}
pub use Rattle.tc_channel.specs.Era.{IsEraWithin, NoneSetsWithin}
pub use Rattle.tc_channel.specs.Reply.{buffered_fields, frame_reply, release_reply}
unfoldable pub use Rattle.tc_channel.specs.Reply.{buffered_fields_within}
pub use Rattle.tc_channel.specs.Run.{IsLawful}
pub use Rattle.tc_channel.specs.declared.event.Event.TheVariants.{Frame, Release, Take, TakeUnit}
pub use Rattle.tc_desk.specs.Alone.{with_places}
pub use Rattle.tc_desk.specs.Call.{HasMet, looked, made}
pub use Rattle.tc_desk.specs.Closing.{IsClosed}
pub use Rattle.tc_desk.specs.Together.{nobody}
pub use Rattle.tc_laws.proofs.EndsLemmas.Segmented.{Makes}
pub use Rattle.tc_laws.proofs.LoopsLemmas.Actions.{so-at}
pub use Rattle.tc_laws.specs.Loops.Loop.{Action, Arrive, Hear, Idle, IsLoop, IsNumbered, IsOther, IsSession, KeepOrder, Loop, Other, Send, events, events_at, heard, known, known_from, receiver, reported}
pub use Rattle.tc_link.specs.Clcw.{fields_of}
unfoldable pub use Rattle.tc_link.specs.Window.{some_of_first}
pub use Rattle.tc_link.specs.declared.Link.{Link}
pub use Rattle.tc_link.specs.declared.frame.Header.{Header}
pub use Rattle.tc_queues.specs.ChannelState.{Queue, queue_of}
pub use Rattle.tc_queues.specs.Settings.{IsAllowed}
pub use Rattle.tc_station.specs.Call.{IsMetAt, IsMetCallAt}
pub use Rattle.tc_status.specs.Board.{IsEarlier}
pub use Rattle.tc_queues.proofs.Lists.{all-append}
pub use Rattle.tc_laws.proofs.EndsLemmas.Arrived.{events-came}
