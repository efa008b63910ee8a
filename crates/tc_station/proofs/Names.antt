-- The types and definitions that most proofs use, imported from one file.
pub use Rattle.logged_lock.specs.Log.{IsBeginning, total_made}
pub use Rattle.std.proofs.Common.{All, Bool, Err, List, None, Ok, Option, Result, Some, [], ap, arith, below_more, cond, drop, eqb, false, get_or, inl, inr, length, ltb, map, max, min, ne_eqb, refl, replicate, rules, set, subst, suc, sym, take, true, true≢false, vec_capacity, vec_len, zero, ℕ, ⊎_elim, ◌*◌, ◌++◌, ◌+◌, ◌-◌, ◌<◌, ◌^◌, ◌∙◌, ◌∷◌, ◌≡◌, ◌≢◌, ◌≤◌}
pub use Rattle.std.proofs.lemmas.Bool.{cases_eq, eq-eqb, eqb-true, le-ltb, ltb-false, ltb-true}
pub use Rattle.std.proofs.lemmas.Bool.Decides.{Decides-eqb, eqb_tells, nat_tests}
pub use Rattle.std.proofs.lemmas.Grind.{common_steps}
pub use Rattle.std.proofs.lemmas.List.{append-nil, drop_more, get_or-map, get_or-set_other, get_or-set_same, get_or-take, get_or_at, get_or_default, length-append, length-map, length-replicate, length-set, length-take, map-append, map-id, map-set, map_more, map_push, replicate_more, set-get_or, take_at, take_more}
pub use Rattle.std.proofs.lemmas.List.Elements.{All-from_recursion, All-map, All-pop, All-push, All-replicate, All-same, All-weaker}
pub use Rattle.std.proofs.lemmas.List.Quantifiers.{position-Some}
pub use Rattle.std.proofs.lemmas.List.Sums.{fails_before_first, passes_at_first, sum_by-cons}
pub use Rattle.std.proofs.lemmas.Option.{get_or_from_slice_get, none-some, same_Some, slice_get-get_or, slice_get_read, slice_get_within}
pub use Rattle.std.proofs.lemmas.Simd.{map-map}
pub use Rattle.std.specs.Global.{Vec}
pub use Rattle.std.specs.List.{AllByRecursion, list_any, position_or_len}
pub use Rattle.std.specs.Prelude.{AllPairs, Any, Contains, IsErrAnd, MatchOption, MatchResult, OnErr, OnOk, count_by, is_none, nat_lt, position, slice_get, slice_index, slice_index_or, slice_set, ◌&&◌, ◌==◌}
pub use Rattle.tc_queues.specs.ChannelState.{no_limits}
pub use Rattle.tc_channel.specs.Journal.{History, IsNumberReported}
pub use Rattle.tc_channel.specs.Reply.{buffered_fields, clcw, frame_reply, release_reply, take_reply, unit_reply}
pub use Rattle.tc_queues.specs.Settings.{IsAllowed}
pub use Rattle.tc_channel.specs.declared.event.Event.{Event}
pub use Rattle.tc_channel.specs.declared.event.Event.TheVariants.{Frame, Release, Take, TakeUnit}
pub use Rattle.tc_queues.specs.declared.settings.Settings.{Settings}
pub use Rattle.tc_desk.specs.{TableId}
pub use Rattle.tc_desk.specs.Call.{HasMet, HasSeenNoMore, IsCall, IsMeeting, IsOldestPacket, IsOldestUnit, IsReleaseFault, IsReleased, IsTakeFault, IsTakeUnitFault, looked, made}
pub use Rattle.tc_desk.specs.Log.{AtLock, Identity, Moment, Own, accounts_of, count_of, with_one_issued}
pub use Rattle.tc_desk.specs.Together.{AreClosed, AreOurs, AreSame, HasCause, column, heads_of, issued_of, locks_of, nobody, settings_of_desks}
pub use Rattle.tc_link.specs.declared.Link.{Link}
pub use Rattle.tc_station.specs.Balance.{AreInBalance, AreInReportedBalance, IsInBalance, counted_by_all}
pub use Rattle.tc_station.specs.Call.{IsBringCall, IsCallAt, IsCallOn, IsCounted, IsMetAt, IsNotBrought, IsNotReleased, IsNotTaken, IsReplied, IsUnitNotTaken}
pub use Rattle.tc_station.specs.Faults.{release_refused, take_refused, take_unit_refused}
pub use Rattle.tc_station.specs.Location.{IsLocateFault, IsLocated}
pub use Rattle.tc_station.specs.Room.{IsRoomFor}
pub use Rattle.tc_station.specs.Roster.{HaveIssued, IsDeskOf, IsPlace, Roster, settings_in}
pub use Rattle.tc_station.specs.StationSettings.{HaveDistinctVcids, vcids_of}
pub use Rattle.tc_station.specs.Tally.{AtStation, HasGoneOn, HasGoneOnAtEach, HasMadeNothing, IsOurs, KnowsDesks, KnowsTheSame, Tally, arrival, at_station, counts_of, fresh, issued_more, newcomer_at_desks, raised, raised_at, tallied, tallies, tally}
pub use Rattle.tc_station.specs.Through.{IsAnsweredAmong, IsGivenOut, IsItsLast, IsShownIn, IsWordRead}
pub use Rattle.tc_station.specs.Together.{AreClosedTogether, IsCauseAtStation, operator_lists_of}
pub use Rattle.tc_station.specs.Tried.{AreMade, CanBeMade, CannotBeMade, HasMadeTheSame, IsJobMade, IsListMade, IsTriedAt, IsTriedOn}
pub use Rattle.tc_station.specs.Work.{AreDone, AreWorked, IsDone, IsRaised, IsShift, IsTallyOf, IsTried, IsWorked, NoCountFalls, Shift, brings_to, is_frame_for, is_other, lowest, raised_by}
pub use Rattle.tc_station.specs.declared.work.Job.{Job}
pub use Rattle.tc_status.specs.Board.{Watching, no_history}
