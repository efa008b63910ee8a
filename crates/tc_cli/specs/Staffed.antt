-- A station with the one operator that it has issued, and a watcher of each channel: the answers to operations at the
-- desks of its channels, and the journals that its watchers have seen.
use Rattle.std.specs.Prelude.{◌≡◌, ◌⊎◌, ℕ, zero, suc, List, Contains, Some, Result, length, slice_get, slice_set}
use Rattle.logged_lock.specs.Log.{IsBeginning, with_entry}
use Rattle.tc_queues.specs.declared.settings.Settings.{Settings}
use Rattle.tc_channel.specs.declared.event.Event.{Event}
use Rattle.tc_channel.specs.Reply.{clcw}
use Rattle.tc_channel.specs.Run.{IsLawful}
use Rattle.tc_desk.specs.Log.{AtLock, Identity, Moment, history_of}
use Rattle.tc_desk.specs.Call.{HasMet, HasSeenNoMore, IsMoment, looked, made}
use Rattle.tc_status.specs.Board.{Watching, no_flag}
use Rattle.tc_status.specs.Board as board
use Rattle.tc_station.specs.Call.{IsMetAt, IsMetCallAt}
use Rattle.tc_station.specs.Location.{IsLocateFault, IsPlaced}
use Rattle.tc_station.specs.Roster.{Roster, IsDeskOf, IsPlace, settings_in}
use Rattle.tc_station.specs.StationSettings.{vcids_of}
use Rattle.tc_station.specs.Tally.{AtStation, HasMadeNothing, KnowsDesks, tally}
use Rattle.tc_link.specs.declared.location.LocateFault.{LocateFault}
use Rattle.tc_cli.specs.Watched.{AreWatchersOf}
use Rattle.tc_rack.specs.Linked.{Linked, IsFrameAnswered, IsReleaseAnswered, IsTakeAnswered, IsUnitAnswered}
use Rattle.tc_rack.specs.declared.answer.Answer.{Answer}
use Rattle.tc_rack.specs.declared.answer.Answer.TheVariants.{Clcw, Refused}
use Rattle.tc_rack.specs.declared.answer.Refusal.TheVariants.{Unlocated, UnknownChannel}
use Rattle.tc_rack.specs.declared.operation.Operation.{Operation}
use Rattle.tc_rack.specs.declared.operation.Operation.TheVariants as operations

-- the views of a station, of its operator with the events that the operator has made, and of the watcher of each
-- channel
pub record Staffed : Type 0 where
  pub station : Roster
  pub operator : AtStation
  pub watchers : List Watching

-- the staffed station is new, and has channels with these settings
pub record IsNewlyStaffed (scid : ℕ) (list : List Settings) (m : Staffed) : Type 0 where
  pub spacecraft : m.station.scid ≡ scid
  pub vcids : m.station.vcids ≡ vcids_of list
  pub settings : settings_in m.station ≡ list
  pub issued : m.station.issued ≡ 1
  pub knows : KnowsDesks m.station m.operator
  pub nothing : HasMadeNothing m.operator
  pub watchers : AreWatchersOf m.station m.watchers

-- The station is the same, and its operator has counted as many events as before. The operator and the watchers may
-- have seen more.
abbrev pub AreAsCounted : Staffed → Staffed → Type 0
AreAsCounted old new = (new.station ≡ old.station) × (tally new.operator ≡ tally old.operator)

-- The channel of a desk at some moment. No flag of its link is set, since a script sets none.
abbrev pub linked : Moment → Linked
linked m = record { history = history_of m; link = no_flag }

-- The operator made this call at its desk at this place, and the channel's watcher met the desk before and after the
-- call. The other watchers are as they were.
pub record IsStaffedCall {R F : Type 0} (place vcid : ℕ) (e : Event) (ok : Moment → R → Type 0) (err : Moment → F → Type 0) (before : Staffed) (result : Result R F) (after : Staffed) : Type 0 where
  pub early : Watching
  pub late : Watching
  pub watched : slice_get before.watchers place ≡ Some early
  pub call : IsMetCallAt place vcid e ok err early before.operator result late after.operator
  pub watchers : after.watchers ≡ slice_set before.watchers place late
  pub station : after.station ≡ before.station

-- The channel with this id, at the desk at this place, gave this answer. The moment of the answer continues all that
-- the operator and the channel's watcher had seen of the channel. If the operation is an event, this event is the next
-- one of the journal, and the operator has made it. Afterwards the watcher has seen all that the operator has seen. The
-- other desks and their watchers are as they were.
pub record IsAnsweredAt (place vcid : ℕ) (Answers : Linked → Answer → Linked → Type 0) (before : Staffed) (answer : Answer) (after : Staffed) : Type 0 where
  pub there : AtLock
  pub next : AtLock
  pub now : Moment
  pub was : slice_get before.operator.desks place ≡ Some there
  pub later : IsBeginning there.own.seen now
  pub moment : IsMoment now
  pub named : now.head.settings.vcid ≡ vcid
  pub lock : next.lock ≡ there.lock
  pub answered : ((e : Event) × Answers (linked now) answer (linked (with_entry now e)) × (next.own ≡ made e now there.own))
      ⊎ (Answers (linked now) answer (linked now) × (next.own ≡ looked now there.own))
  pub others : after.operator.desks ≡ slice_set before.operator.desks place next
  pub vcids : after.operator.vcids ≡ before.operator.vcids
  pub early : Watching
  pub late : Watching
  pub watched : slice_get before.watchers place ≡ Some early
  pub no_more : HasSeenNoMore early now
  pub met : HasMet next.own.seen late
  pub watchers : after.watchers ≡ slice_set before.watchers place late
  pub station : after.station ≡ before.station

-- the channel with this id gives this answer at its desk, or there is no such channel
abbrev pub IsDeskAnswer : ℕ → (Linked → Answer → Linked → Type 0) → Staffed → Answer → Staffed → Type 0
IsDeskAnswer vcid Answers m answer after =
    ((place : ℕ) × IsPlace m.station vcid place × IsAnsweredAt place vcid Answers m answer after)
    ⊎ (¬ Contains m.station.vcids vcid × (answer ≡ Refused UnknownChannel) × (after ≡ m))

-- octets are brought to the desk of the channel that their frame names, or the answer gives the reason why they aren't
abbrev pub IsBringAnswer : List ℕ → Staffed → Answer → Staffed → Type 0
IsBringAnswer octets m answer after =
    ((place vcid : ℕ) × (frame : List ℕ) × IsPlaced m.station octets place vcid frame × IsAnsweredAt place vcid (IsFrameAnswered frame) m answer after)
    ⊎ ((fault : LocateFault) × IsLocateFault m.station octets fault × (answer ≡ Refused (Unlocated fault)) × (after ≡ m))

-- The watcher at this place, whose channel has this id, read a CLCW without flags of the link. It is the CLCW of the
-- history that the watcher has seen after the read. This history continues the one that the watcher had seen before.
-- Nothing else changes.
pub record IsReadAt (place vcid : ℕ) (before : Staffed) (answer : Answer) (after : Staffed) : Type 0 where
  pub head : Identity
  pub early : Watching
  pub late : Watching
  pub desk : IsDeskOf before.station vcid head
  pub watched : slice_get before.watchers place ≡ Some early
  pub later : board.IsEarlier early.seen late.seen
  pub settings : late.seen.settings ≡ head.settings
  pub lawful : IsLawful late.seen.settings late.seen.journal
  pub word : answer ≡ Clcw vcid (clcw late.seen.settings late.seen.journal no_flag)
  pub change : after ≡ record before { watchers = slice_set before.watchers place late }

-- the answer is the CLCW of the channel with this id, read by the channel's watcher without a lock, or there is no such
-- channel
abbrev pub IsWordAnswer : ℕ → Staffed → Answer → Staffed → Type 0
IsWordAnswer vcid m answer after =
    ((place : ℕ) × IsPlace m.station vcid place × IsReadAt place vcid m answer after)
    ⊎ (¬ Contains m.station.vcids vcid × (answer ≡ Refused UnknownChannel) × (after ≡ m))

-- an operation has this answer, and this effect on the station and its watchers
abbrev pub IsStaffedAnswer : Operation → Staffed → Answer → Staffed → Type 0
IsStaffedAnswer (operations.Frame octets) old answer new = IsBringAnswer octets old answer new
IsStaffedAnswer (operations.Release vcid) old answer new = IsDeskAnswer vcid IsReleaseAnswered old answer new
IsStaffedAnswer (operations.Take vcid apid) old answer new = IsDeskAnswer vcid (IsTakeAnswered apid) old answer new
IsStaffedAnswer (operations.Unit vcid map_id) old answer new = IsDeskAnswer vcid (IsUnitAnswered map_id) old answer new
IsStaffedAnswer (operations.Clcw vcid) old answer new = IsWordAnswer vcid old answer new

-- Through the operator, the watcher at this place met the desk at the same place. The other watchers stay the same.
pub record HasMetAt (place : ℕ) (before : Staffed) (after : Staffed) : Type 0 where
  pub vcid : ℕ
  pub early : Watching
  pub late : Watching
  pub watched : slice_get before.watchers place ≡ Some early
  pub meeting : IsMetAt place vcid early before.operator late after.operator
  pub watchers : after.watchers ≡ slice_set before.watchers place late
  pub station : after.station ≡ before.station

-- the first `n` watchers met their desks, one after the other
abbrev pub HaveMet : ℕ → Staffed → Staffed → Type 0
HaveMet zero before after = after ≡ before
HaveMet (suc n) before after = (mid : Staffed) × HaveMet n before mid × HasMetAt n mid after

-- each watcher met its desk
abbrev pub AllHaveMet : Staffed → Staffed → Type 0
AllHaveMet before after = HaveMet (length before.watchers) before after
