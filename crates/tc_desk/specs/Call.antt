-- The definitions that the contracts of an operator's calls use.
use Rattle.std.specs.Prelude.{◌≡◌, ◌≢◌, ◌-◌, ◌^◌, min, ⊤, ℕ, Bool, false, List, [], ◌∷◌, ◌++◌, length, Some, None, Result, MatchResult}
use Rattle.tc_channel.specs.declared.event.Event.{Event}
use Rattle.tc_channel.specs.declared.event.Event.TheVariants.{Frame}
use Rattle.tc_queues.specs.declared.reply.Delivery.{Delivery}
use Rattle.tc_queues.specs.declared.reply.FrameReply.{FrameReply}
use Rattle.tc_queues.specs.declared.reply.NoMemory.{NoMemory}
use Rattle.tc_queues.specs.declared.reply.ReleaseFault.{ReleaseFault}
use Rattle.tc_queues.specs.declared.reply.ReleaseFault.TheVariants as release_faults
use Rattle.tc_queues.specs.declared.reply.TakeFault.{TakeFault}
use Rattle.tc_queues.specs.declared.reply.TakeFault.TheVariants as take_faults
use Rattle.tc_queues.specs.declared.reply.TakeUnitFault.{TakeUnitFault}
use Rattle.tc_queues.specs.declared.reply.TakeUnitFault.TheVariants as unit_faults
use Rattle.tc_channel.specs.Journal.{History, with_event}
use Rattle.tc_queues.specs.Settings.{IsAllowed}
use Rattle.tc_channel.specs.Run.{IsLawful}
use Rattle.tc_channel.specs.Reply.{IsBypassData, frame_reply, release_reply, take_reply, unit_reply, waiting_packets, waiting_units, buffered_fields}
use Rattle.tc_status.specs.Board.{Watching}
use Rattle.tc_status.specs.Board as board
use Rattle.logged_lock.specs.Log.{IsBeginning, with_entry}
use Rattle.tc_desk.specs.Log.{Moment, Own, AtLock, history_of}

-- the settings are allowed, and the journal is lawful
abbrev pub IsMoment : Moment → Type 0
IsMoment m = IsAllowed m.head.settings × IsLawful m.head.settings m.entries

-- An operation was carried out on a desk. If it was answered, its event is the next event of the journal. If it was
-- refused, the desk is as it was.
pub record IsStep {R F : Type 0} (e : Event) (ok : Moment → R → Type 0) (err : Moment → F → Type 0) (before : Moment) (result : Result R F) (after : Moment) : Type 0 where
  pub moment : IsMoment before
  pub answer : MatchResult result (λ r. ok before r × (after ≡ with_entry before e)) (λ f. err before f × (after ≡ before))

-- a desk was asked a question, which left the desk as it was
pub record IsAsked {R : Type 0} (ok : Moment → R → Type 0) (before : Moment) (result : R) (after : Moment) : Type 0 where
  pub moment : IsMoment before
  pub answer : ok before result
  pub same : after ≡ before

-- the account of an operator that has seen this moment, and made nothing at it
abbrev pub looked : Moment → Own → Own
looked now own = record { seen = now; made = own.made; issued = own.issued }

-- The account of an operator that made this event at this moment. The event is the last one that the operator has seen.
-- It is also the last one in the list of events that the operator made, where it stands with its place in the journal.
abbrev pub made : Event → Moment → Own → Own
made e now own = record { seen = with_entry now e; made = own.made ++ (length now.entries, e) ∷ []; issued = own.issued }

-- The call was decided at a moment of the desk that continues all that the operator had seen. If it was answered, its
-- event is the next one of the journal, and the next one that the operator made. If it was refused, the operator has
-- only seen this moment.
pub record IsCall {R F : Type 0} (e : Event) (ok : Moment → R → Type 0) (err : Moment → F → Type 0) (before : AtLock) (result : Result R F) (after : AtLock) : Type 0 where
  pub now : Moment
  pub later : IsBeginning before.own.seen now
  pub moment : IsMoment now
  pub lock : after.lock ≡ before.lock
  pub answer : MatchResult result (λ r. ok now r × (after.own ≡ made e now before.own)) (λ f. err now f × (after.own ≡ looked now before.own))

-- The answer was read at a moment of the desk that continues all that the operator had seen.
pub record IsLook {R : Type 0} (ok : Moment → R → Type 0) (before : AtLock) (result : R) (after : AtLock) : Type 0 where
  pub now : Moment
  pub later : IsBeginning before.own.seen now
  pub moment : IsMoment now
  pub lock : after.lock ≡ before.lock
  pub answer : ok now result
  pub looked : after.own ≡ looked now before.own

-- this is the reply to the frame
abbrev pub IsFramed : List ℕ → Moment → FrameReply → Type 0
IsFramed frame m reply = reply ≡ frame_reply m.head.settings m.entries frame

-- the watcher belongs to the desk's board, and has seen this history
abbrev pub HasSeen : Moment → History → Watching → Type 0
HasSeen m seen watcher = (watcher.board ≡ m.head.board) × (watcher.seen ≡ seen)

-- the history that the watcher has seen is a beginning of the journal at this moment
abbrev pub HasSeenNoMore : Watching → Moment → Type 0
HasSeenNoMore watcher m = board.IsEarlier watcher.seen (history_of m)

-- the watcher belongs to the desk's board, and has seen the whole journal of this moment
abbrev pub HasMet : Moment → Watching → Type 0
HasMet m watcher = HasSeen m (history_of m) watcher

-- The call also let a watcher of the desk's board see the channel. Before the call, the watcher had seen no more than
-- the journal at the call's moment. After the call, the watcher has seen all that the operator has seen.
pub record IsMetCall {R F : Type 0} (e : Event) (ok : Moment → R → Type 0) (err : Moment → F → Type 0) (early : Watching) (before : AtLock) (result : Result R F) (late : Watching) (after : AtLock) : Type 0 where
  pub call : IsCall e (λ m r. ok m r × HasSeenNoMore early m) (λ m f. err m f × HasSeenNoMore early m) before result after
  pub met : HasMet after.own.seen late

-- the watcher saw the channel as it was at a moment, and no event was made
pub record IsMeeting (early : Watching) (before : AtLock) (late : Watching) (after : AtLock) : Type 0 where
  pub look : IsLook (λ m (done : Unit {0}). HasSeenNoMore early m) before tt after
  pub met : HasMet after.own.seen late

-- The answer has the reply to this frame, and a watcher of the desk's board. The watcher has seen the journal with the
-- frame at its end.
abbrev pub IsFramedWatched : List ℕ → Moment → FrameReply × Watching → Type 0
IsFramedWatched frame m answer = IsFramed frame m answer.0 × HasSeen m (with_event (history_of m) (Frame frame)) answer.1

-- Memory ran out. If the journal takes no memory, only Type-BD frames are refused for this reason.
abbrev pub IsFrameFault : Bool → List ℕ → Moment → NoMemory → Type 0
IsFrameFault grows frame m fault = grows ≡ false → IsBypassData frame

-- a data field waited, and its release had this result
abbrev pub IsReleased : Moment → Delivery → Type 0
IsReleased m delivery = (buffered_fields m.head.settings m.entries ≢ []) × (delivery ≡ release_reply m.head.settings m.entries)

abbrev pub IsReleaseFault : Moment → ReleaseFault → Type 0
IsReleaseFault m release_faults.Empty = buffered_fields m.head.settings m.entries ≡ []
IsReleaseFault m release_faults.NoMemory = ⊤

-- the packet is the oldest that waited in the queue with this APID
abbrev pub IsOldestPacket : ℕ → Moment → List ℕ → Type 0
IsOldestPacket apid m packet = take_reply m.head.settings m.entries apid ≡ Some packet

-- This is a reason why no packet was taken. A lack of memory can be the reason only if the journal takes memory.
abbrev pub IsTakeFault : Bool → ℕ → Moment → TakeFault → Type 0
IsTakeFault grows apid m take_faults.NoQueue = waiting_packets m.head.settings m.entries apid ≡ None
IsTakeFault grows apid m take_faults.Empty = waiting_packets m.head.settings m.entries apid ≡ Some []
IsTakeFault grows apid m take_faults.NoMemory = grows ≡ false → ⊥

-- the unit is the oldest that waited on this MAP
abbrev pub IsOldestUnit : ℕ → Moment → List ℕ → Type 0
IsOldestUnit map_id m unit = unit_reply m.head.settings m.entries map_id ≡ Some unit

abbrev pub IsTakeUnitFault : Bool → ℕ → Moment → TakeUnitFault → Type 0
IsTakeUnitFault grows map_id m unit_faults.NoMap = waiting_units m.head.settings m.entries map_id ≡ None
IsTakeUnitFault grows map_id m unit_faults.Empty = waiting_units m.head.settings m.entries map_id ≡ Some []
IsTakeUnitFault grows map_id m unit_faults.NoMemory = grows ≡ false → ⊥

-- this is the number of events in the journal, or 2^64 - 1 if there are more
abbrev pub IsCount : Moment → ℕ → Type 0
IsCount m count = count ≡ min (length m.entries) (2 ^ 64 - 1)
