-- Types, definitions and lemmas that most proofs use, imported from one file.
pub use Rattle.logged_lock.specs.Log.{IsBeginning, IsMergeOf, made_by}
pub use Rattle.std.proofs.lemmas.Bool.{cases_lt, eqb-true}
pub use Rattle.std.proofs.lemmas.Bool.Decides.{eqb_tells}
pub use Rattle.std.proofs.lemmas.List.{length-append, length-map, length-set, nil_from_length}
pub use Rattle.std.proofs.lemmas.List.Elements.{All-head, All-tail}
pub use Rattle.std.proofs.lemmas.List.Quantifiers.{position-Some}
pub use Rattle.std.proofs.lemmas.Option.{get_or_from_slice_get, none-some, same_Some, slice_get-get_or, slice_get_within}
pub use Rattle.std.specs.Option.{option_and_then}
pub use Rattle.tc_channel.specs.Journal.{History, IsNumberReported}
pub use Rattle.tc_channel.specs.Reply.{buffered_fields, clcw, waiting_packets, waiting_units}
pub use Rattle.tc_channel.specs.declared.event.Event.{Event}
pub use Rattle.tc_queues.specs.declared.settings.Settings.{Settings}
pub use Rattle.tc_cli.specs.Staffed.{AllHaveMet, HasMetAt, HaveMet, IsAnsweredAt, IsBringAnswer, IsDeskAnswer, IsStaffedCall, IsWordAnswer, Staffed, linked}
pub use Rattle.tc_cli.specs.Parallel.{AreParted, ArePartedFor, AreWorkedChannels, GivesToFound, IsParted, Plan, none_parted, one_parted}
pub use Rattle.tc_cli.specs.Parting.{IsFrameGiven, IsGiven, IsJobLine, IsWorkedOut, Parted, empty_list, with_job}
pub use Rattle.tc_cli.specs.Report.{IsClosedReport}
pub use Rattle.tc_cli.specs.Script.{IsBadLine, IsScriptCloseFault, IsScriptFault, Leads, goes_on, starts}
pub use Rattle.tc_cli.specs.Session.{IsStaffedFound, IsStaffedOperated, Session}
pub use Rattle.tc_cli.specs.Written.{AreAnswers, IsLineAnswered, IsReportFault, IsScriptReport, at_first, one_more}
pub use Rattle.tc_desk.specs.Alone.{HasMadeAll, HasSeenItsOwn}
pub use Rattle.tc_desk.specs.Call.{HasSeenNoMore, IsCall, looked, made}
pub use Rattle.tc_desk.specs.Closing.{IsClosed}
pub use Rattle.tc_desk.specs.Log.{AtLock, Identity, Moment, Own, history_of}
pub use Rattle.tc_desk.specs.Together.{column, heads_of, nobody}
pub use Rattle.tc_link.specs.Frame.{BeginsWith, header_of}
pub use Rattle.tc_link.specs.declared.location.LocateFault.{LocateFault}
pub use Rattle.tc_rack.proofs.Performed.{rack-found}
pub use Rattle.tc_rack.specs.Linked.{IsFrameAnswered, IsReleaseAnswered, IsTakeAnswered, IsUnitAnswered, Linked, later, new_linked, reported_word, vcid_of}
pub use Rattle.tc_rack.specs.Operation.{IsAnswerOf, IsChannelAnswer, IsClcwAnswer, IsFrameAnswer}
pub use Rattle.tc_rack.specs.Performing.{IsDoneSo, IsInstructionAnswered}
pub use Rattle.tc_rack.specs.Progress.{IsPerformed, Progress, rack_for}
pub use Rattle.tc_rack.specs.Rack.{Changes, HasChannel, IsRackLocateFault, Racked, histories, new_rack}
pub use Rattle.tc_rack.specs.Report.{AreNonDecreasing, IsLawfulHistory, IsReportOf, report_text}
pub use Rattle.tc_rack.specs.Stage.{phase_of}
pub use Rattle.tc_rack.specs.declared.answer.Answer.{Answer}
pub use Rattle.tc_rack.specs.declared.answer.Refusal.TheVariants.{Empty, NoMap, NoQueue, Unlocated}
pub use Rattle.tc_rack.specs.declared.operation.Operation.{Operation}
pub use Rattle.tc_rack.specs.declared.stage.Stage.TheVariants.{Operating, SettingUp}
pub use Rattle.tc_rack.specs.Instruction.{instruction_of}
pub use Rattle.tc_rack.specs.Phase.{Does, Phase, Setup}
pub use Rattle.tc_rack.specs.declared.instruction.Instruction.{Instruction}
pub use Rattle.tc_rack.specs.declared.instruction.Instruction.TheVariants.{Add, Channel, Clcw, Frame, Nothing, Release, Take, Unit as TakeUnit}
pub use Rattle.tc_station.proofs.Counts.{no-fault}
pub use Rattle.tc_station.specs.Location.{IsLocateFault, IsLocated}
pub use Rattle.tc_station.specs.Lowest.{lower}
pub use Rattle.tc_station.specs.Roster.{IsPlace, Roster, settings_in}
pub use Rattle.tc_station.specs.Tally.{AtStation, HasMadeNothing, KnowsDesks}
pub use Rattle.tc_station.specs.Together.{AreClosedTogether, operator_lists_of}
pub use Rattle.tc_station.specs.declared.work.Job.{Job}
pub use Rattle.tc_station.specs.declared.work.Order.{Order}
pub use Rattle.tc_station.specs.declared.work.WorkList.{WorkList}
pub use Rattle.tc_status.specs.Board.{IsEarlier, Watching, no_flag}
pub use Rattle.tc_text.specs.Reading.{IsFirstLine, IsReadFault, script_limit}
pub use Rattle.tc_text.specs.declared.fault.Reason.{Reason}
pub use Rattle.tc_text.specs.declared.fault.Reason.TheVariants.{NoMemory}
pub use Rattle.tc_text.specs.declared.fault.ScriptFault.{ScriptFault}
pub use Rattle.tc_text.specs.declared.fault.ScriptFault.TheVariants.{Line, Read, TooLong, Unbalanced, Write}
pub use mathlib.Core.List.{map-map}
