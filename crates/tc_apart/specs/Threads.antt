-- A loop at a station: one thread brings a sender's frames to a channel and reads the CLCWs that the sender hears, while
-- other threads work at the same channel.
use Rattle.std.specs.Global.{Vec}
use Rattle.std.specs.Prelude.{◌≡◌, ◌≢◌, ℕ, zero, suc, ◌+◌, ◌<◌, ◌≤◌, ◌⊎◌, Bool, List, [], ◌∷◌, ◌++◌, length, map, take, Ok, Some, slice_get}
use Rattle.std.specs.List.{AllByRecursion}
use mathlib.Core.List.{IsPrefix}
use Rattle.tc_link.specs.Clcw.{fields_of}
use Rattle.tc_link.specs.declared.Link.{Link}
use Rattle.tc_queues.specs.Settings.{IsAllowed}
use Rattle.tc_queues.specs.declared.reply.Delivery.{Delivery}
use Rattle.tc_queues.specs.declared.reply.FrameReply.{FrameReply}
use Rattle.tc_queues.specs.declared.reply.NoMemory.{NoMemory}
use Rattle.tc_queues.specs.declared.reply.ReleaseFault.{ReleaseFault}
use Rattle.tc_queues.specs.declared.reply.TakeFault.{TakeFault}
use Rattle.tc_queues.specs.declared.reply.TakeUnitFault.{TakeUnitFault}
use Rattle.tc_channel.specs.declared.event.Event.{Event}
use Rattle.tc_channel.specs.declared.event.Event.TheVariants.{Frame, Release, Take, TakeUnit}
use Rattle.tc_channel.specs.Era.{IsEra}
use Rattle.tc_channel.specs.Journal.{History}
use Rattle.tc_channel.specs.Reply.{clcw, clcw_within}
use Rattle.tc_channel.specs.Run.{IsLawful}
use Rattle.tc_status.specs.Board.{IsEarlier, Watching}
use Rattle.tc_desk.specs.Log.{AtLock}
use Rattle.tc_desk.specs.Call as at_desk
use Rattle.tc_station.specs.Call.{IsMetCallAt}
use Rattle.tc_station.specs.Tally.{AtStation}
use Rattle.tc_laws.specs.Loops.Loop.{Loop, Action, Send, Arrive, Hear, Other, Idle, IsLoop, IsNumbered, IsOther, KeepOrder, heard, journal, known}

-- a thread that brings frames to a channel of a station: its operator, and its watcher of the channel
pub record Bringer : Type 0 where
  pub operator : AtStation
  pub watcher : Watching

-- an action, and the thread after it
pub record Turn : Type 0 where
  pub action : Action
  pub after : Bringer

-- The actions of a sender, of its links and of a thread that brings the sender's frames, in their order. `start` is the
-- thread before the first action. In the loop, `links` has the link flags with which the thread's watcher reads the
-- CLCW at each moment.
--
-- In a course, `Arrive` stands for a frame that the thread brings. `Hear m` stands for the CLCW that the watcher has
-- read at moment m. `Other` stands for another operation of the thread. If an action is `Idle`, the thread may read a
-- CLCW, or work at other channels.
pub record Course : Type 0 where
  pub loop : Loop
  pub start : Bringer
  pub turns : List Turn

abbrev pub action_of : Turn → Action
action_of turn = turn.action

abbrev pub actions_of : Course → List Action
actions_of c = map action_of c.turns

-- the thread at a moment of these turns
abbrev pub thread_after : Bringer → List Turn → ℕ → Bringer
thread_after start turns zero = start
thread_after start [] (suc m) = start
thread_after start (turn ∷ turns) (suc m) = thread_after turn.after turns m

-- the thread at a moment of the course, and after the last action
abbrev pub thread_at : Course → ℕ → Bringer
thread_at c m = thread_after c.start c.turns m

abbrev pub thread_behind : Course → Bringer
thread_behind c = thread_at c (length c.turns)

-- The thread carried out an operation with this event on the channel with this id, which has this place at the station.
-- The call was answered, and the thread's watcher met the channel before and after the operation.
abbrev pub HasMade : Bool → ℕ → ℕ → Bringer → Event → Bringer → Type 0
HasMade grows place vcid early (Frame octets) late =
    (reply : FrameReply) × IsMetCallAt {R = FrameReply} {F = NoMemory} place vcid (Frame octets) (at_desk.IsFramed octets) (at_desk.IsFrameFault grows octets)
    early.watcher early.operator (Ok reply) late.watcher late.operator
HasMade grows place vcid early Release late =
    (delivery : Delivery) × IsMetCallAt {R = Delivery} {F = ReleaseFault} place vcid Release at_desk.IsReleased at_desk.IsReleaseFault
    early.watcher early.operator (Ok delivery) late.watcher late.operator
HasMade grows place vcid early (Take apid) late =
    (packet : Vec ℕ) × IsMetCallAt {R = Vec ℕ} {F = TakeFault} place vcid (Take apid) (λ m p. at_desk.IsOldestPacket apid m p.items) (at_desk.IsTakeFault grows apid)
    early.watcher early.operator (Ok packet) late.watcher late.operator
HasMade grows place vcid early (TakeUnit map_id) late =
    (unit : Vec ℕ) × IsMetCallAt {R = Vec ℕ} {F = TakeUnitFault} place vcid (TakeUnit map_id) (λ m u. at_desk.IsOldestUnit map_id m u.items) (at_desk.IsTakeUnitFault grows map_id)
    early.watcher early.operator (Ok unit) late.watcher late.operator

-- The thread made no event of the channel at this place. Its watcher may have read a CLCW, or met the channel.
pub record HasMadeNone (place : ℕ) (early late : Bringer) : Type 0 where
  pub before : AtLock
  pub after : AtLock
  pub was : slice_get early.operator.desks place ≡ Some before
  pub is : slice_get late.operator.desks place ≡ Some after
  pub same : after.own.made ≡ before.own.made
  pub later : IsEarlier early.watcher.seen late.watcher.seen

-- The thread's part in an action, and the events of the channel that it made. The thread has no part if the sender sends
-- a frame or hears a CLCW.
abbrev pub HasActed : Bool → ℕ → ℕ → Bringer → Action → List Event → Bringer → Type 0
HasActed grows place vcid early (Send i) own late = (own ≡ []) × (late ≡ early)
HasActed grows place vcid early (Arrive i s) own late = (e : Event) × (own ≡ e ∷ []) × HasMade grows place vcid early e late
HasActed grows place vcid early (Hear m) own late = (own ≡ []) × (late ≡ early)
HasActed grows place vcid early (Other f) own late = (e : Event) × (own ≡ e ∷ []) × HasMade grows place vcid early e late
HasActed grows place vcid early Idle own late = (own ≡ []) × HasMadeNone place early late

-- the thread's part in these actions, one after the other, and the events of the channel that it made
abbrev pub HaveActed : Bool → ℕ → ℕ → Bringer → List Turn → List Event → Type 0
HaveActed grows place vcid early [] came = came ≡ []
HaveActed grows place vcid early (turn ∷ turns) came =
    (own : List Event) × (later : List Event) × (came ≡ own ++ later) × HasActed grows place vcid early turn.action own turn.after × HaveActed grows place vcid turn.after turns later

-- the CLCW that the thread's watcher has read at a moment of the course
abbrev pub word_read : Course → ℕ → Link → ℕ
word_read c m link = clcw (thread_at c m).watcher.seen.settings (thread_at c m).watcher.seen.journal link

-- the report value N(R) of this CLCW
abbrev pub read_at : Course → ℕ → ℕ
read_at c m = (fields_of (word_read c m (c.loop.links m))).vr

-- the number of frames that the sender knows to be accepted after it has heard these further CLCWs, if it knew `a`
-- before
abbrev pub learnt_from : Course → ℕ → List Action → ℕ
learnt_from c a [] = a
learnt_from c a (Hear m ∷ rest) = learnt_from c (heard c.loop.first c.loop.window a (read_at c m)) rest
learnt_from c a (_ ∷ rest) = learnt_from c a rest

-- the number of frames that the sender knows to be accepted at a moment of the course
abbrev pub learnt : Course → ℕ → ℕ
learnt c t = learnt_from c 0 (take t (actions_of c))

-- The sender numbers its frames and keeps its window, as in a loop, and the links keep order. The thread made the events
-- `came` of the channel at this place, one after the other. Each of its actions is a call of `operate_met` that was
-- answered, or makes no event of the channel.
pub record IsCourse (grows : Bool) (place : ℕ) (c : Course) (came : List Event) : Type 0 where
  pub window : c.loop.window < 256
  pub numbered : (i : ℕ) → IsNumbered c.loop i
  pub acted : HaveActed grows place c.loop.settings.vcid c.start c.turns came
  pub sends : (t i : ℕ) → slice_get (actions_of c) t ≡ Some (Send i) → (learnt c t ≤ i) × (i < learnt c t + c.loop.window)
  pub links : KeepOrder (actions_of c)
  pub others : (t : ℕ) (e : Event) → slice_get (actions_of c) t ≡ Some (Other e) → IsOther e

-- none of these events is a Type-AD frame, from place n of the journal on
abbrev pub AreOthersFrom : ℕ → List (ℕ × Event) → Type 0
AreOthersFrom n made = AllByRecursion (λ (p : ℕ × Event). n ≤ p.0 → IsOther p.1) made

-- In the era that begins after the loop's events `before`, only the course brings Type-AD frames to the channel at this
-- place. The thread's operator has the number `number` in the list of operators.
pub record BringsAll (place : ℕ) (c : Course) (operators : List AtStation) (number : ℕ) : Type 0 where
  pub among : slice_get operators number ≡ Some (thread_behind c).operator
  -- At first the thread's watcher has seen the events `before`, and perhaps more. The operator has brought no Type-AD
  -- frame of the era.
  pub seen : IsPrefix c.loop.before c.start.watcher.seen.journal
  pub desk : AtLock
  pub there : slice_get c.start.operator.desks place ≡ Some desk
  pub early : AreOthersFrom (length c.loop.before) desk.own.made
  -- After the last action, the watcher has seen all that the operator has seen of the channel.
  pub last : AtLock
  pub here : slice_get (thread_behind c).operator.desks place ≡ Some last
  pub met : at_desk.HasMet last.own.seen (thread_behind c).watcher
  -- No other operator has brought a Type-AD frame of the era.
  pub others : (k : ℕ) (other : AtStation) (d : AtLock) → k ≢ number → slice_get operators k ≡ Some other → slice_get other.desks place ≡ Some d
      → AreOthersFrom (length c.loop.before) d.own.made

-- The channel has allowed settings and a lawful journal, as each call of a channel promises. Its era begins after the
-- loop's events `before`, with the V(R) `first`.
pub record IsEraOf (c : Course) (channel : History) : Type 0 where
  pub allowed : IsAllowed channel.settings
  pub lawful : IsLawful channel.settings channel.journal
  pub later : List Event
  pub era : IsEra channel.settings channel.journal c.loop.before later c.loop.first

-- An action of a course, as an action of a longer session. `at` has the moment of the session for each moment of the
-- course.
abbrev pub moved : (ℕ → ℕ) → Action → Action
moved at (Send i) = Send i
moved at (Arrive i s) = Arrive i (at s)
moved at (Hear m) = Hear (at m)
moved at (Other e) = Other e
moved at Idle = Idle

-- The session has all actions of the course, in their order. All that it has besides are events that other threads
-- made.
pub record IsFilledIn (actions : List Action) (at : ℕ → ℕ) (session : List Action) : Type 0 where
  pub order : (m n : ℕ) → m < n → n ≤ length actions → at m < at n
  pub each : (t x : ℕ) (a : Action) → slice_get actions t ≡ Some a → suc x ≡ at (suc t) → slice_get session x ≡ Some (moved at a)
  pub only : (x : ℕ) (a : Action) → slice_get session x ≡ Some a
      → ((e : Event) × (a ≡ Other e) × IsOther e) ⊎ ((t : ℕ) × (b : Action) × (slice_get actions t ≡ Some b) × (suc x ≡ at (suc t)) × (a ≡ moved at b))

-- The channel's journal is that of the loop, with a session that has the course's actions and the events of other
-- threads. At each moment of the course, the CLCW that the thread's watcher has read is the one that the receiver of the
-- loop makes, and the sender knows the same frames to be accepted.
pub record IsLoopAt (c : Course) (channel : History) : Type 0 where
  pub session : List Action
  pub at : ℕ → ℕ
  pub filled : IsFilledIn (actions_of c) at session
  pub settings : channel.settings ≡ c.loop.settings
  pub loop : IsLoop c.loop session
  pub whole : channel.journal ≡ journal c.loop session
  pub words : (m : ℕ) (link : Link) → m ≤ length c.turns → word_read c m link ≡ clcw_within c.loop.limits c.loop.settings (journal c.loop (take (at m) session)) link
  pub knows : (m : ℕ) → m ≤ length c.turns → known c.loop session (at m) ≡ learnt c m
