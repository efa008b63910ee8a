-- A course that was worked out by hand, to be read with the definitions of `Threads`. Two threads work at one channel.
use Rattle.std.specs.Prelude.{ℕ, List, [], ◌∷◌, take}
use Rattle.tc_channel.specs.Examples as example
use Rattle.tc_channel.specs.Journal.{History}
use Rattle.tc_channel.specs.declared.event.Event.{Event}
use Rattle.tc_channel.specs.declared.event.Event.TheVariants.{Frame, Release, Take}
use Rattle.tc_desk.specs.{TableId}
use Rattle.tc_desk.specs.Log.{AtLock, Identity, nowhere}
use Rattle.tc_station.specs.Roster.{Roster}
use Rattle.tc_station.specs.Tally.{AtStation, at_station}
use Rattle.tc_laws.specs.Loops.Loop.{Action, Send, Arrive, Hear, Other, Idle, smallest}
use Rattle.tc_laws.specs.Loops.Examples as loop
use Rattle.tc_laws.specs.Loops.Start.{era}
use Rattle.tc_apart.specs.Threads.{Bringer, Course}

-- an earlier Type-AD frame, Set V(R) to 9, and the first two frames of the era, each of which carries a packet of
-- application 5
abbrev pub earlier : Event
earlier = Frame (smallest 0 0)

abbrev pub set_to_9 : Event
set_to_9 = Frame (loop.around 9 1)

abbrev pub frame_0 : Event
frame_0 = Frame (loop.around 9 2)

abbrev pub frame_1 : Event
frame_1 = Frame (loop.around 9 3)

-- The journal of the channel when the station is closed. The first thread brought the earlier frame, the two frames of
-- the era, and the release before the last event. The second thread brought the earlier frame once more, and all other
-- events.
abbrev pub closed_journal : List Event
closed_journal = earlier ∷ earlier ∷ set_to_9 ∷ Release ∷ frame_0 ∷ Release ∷ Take 5 ∷ frame_1 ∷ Release ∷ Take 5 ∷ []

abbrev pub channel : History
channel = record { settings = example.buffer_of 2; journal = closed_journal }

abbrev pub lock : TableId
lock = record nowhere.board { block = 1 }

abbrev pub board : TableId
board = record nowhere.board { block = 2 }

abbrev pub head : Identity
head = record { settings = example.buffer_of 2; board = board }

abbrev pub station : Roster
station = record { scid = 42; vcids = 1 ∷ []; issued = 2; locks = lock ∷ []; heads = head ∷ [] }

-- an operator that has seen the first n events of the journal, and has made these events
abbrev pub desk : ℕ → List (ℕ × Event) → AtLock
desk n made = record { lock = lock; own = record { seen = record { head = head; entries = take n closed_journal }; made = made; issued = 0 } }

abbrev pub operator : ℕ → List (ℕ × Event) → AtStation
operator n made = at_station (1 ∷ []) (desk n made ∷ [])

-- a thread with such an operator, whose watcher has seen the first m events
abbrev pub thread : ℕ → List (ℕ × Event) → ℕ → Bringer
thread n made m = record { operator = operator n made; watcher = record { board = board; seen = record channel { journal = take m closed_journal } } }

-- the states of the first thread: at first, with frame 0, after its watcher has read a CLCW, with frame 1, and at last
abbrev pub at_first : Bringer
at_first = thread 1 ((0, earlier) ∷ []) 4

abbrev pub with_frame_0 : Bringer
with_frame_0 = thread 5 ((0, earlier) ∷ (4, frame_0) ∷ []) 5

abbrev pub with_clcw : Bringer
with_clcw = thread 5 ((0, earlier) ∷ (4, frame_0) ∷ []) 6

abbrev pub with_frame_1 : Bringer
with_frame_1 = thread 8 ((0, earlier) ∷ (4, frame_0) ∷ (7, frame_1) ∷ []) 8

abbrev pub at_last : Bringer
at_last = thread 9 ((0, earlier) ∷ (4, frame_0) ∷ (7, frame_1) ∷ (8, Release) ∷ []) 9

-- The sender sends frame 0, and the first thread brings it. Then the thread reads a CLCW, which the sender hears. The
-- sender sends frame 1, and the thread brings it and releases a data field.
abbrev pub course : Course
course = record {
  loop = record (era loop.learnt_by_9) { before = earlier ∷ earlier ∷ set_to_9 ∷ [] };
  start = at_first;
  turns =
      record { action = Send 0; after = at_first } ∷ record { action = Arrive 0 0; after = with_frame_0 } ∷ record { action = Idle; after = with_clcw }
      ∷ record { action = Hear 3; after = with_clcw } ∷ record { action = Send 1; after = with_clcw } ∷ record { action = Arrive 1 4; after = with_frame_1 }
      ∷ record { action = Other Release; after = at_last } ∷ [];
}

-- the events that the first thread makes in the course
abbrev pub came : List Event
came = frame_0 ∷ frame_1 ∷ Release ∷ []

-- the second thread's operator
abbrev pub second : AtStation
second = operator 10 ((1, earlier) ∷ (2, set_to_9) ∷ (3, Release) ∷ (5, Release) ∷ (6, Take 5) ∷ (9, Take 5) ∷ [])

abbrev pub operators : List AtStation
operators = at_last.operator ∷ second ∷ []

-- the session of the loop, with the events of the second thread
abbrev pub session : List Action
session = Other Release ∷ Send 0 ∷ Arrive 0 1 ∷ Other Release ∷ Idle ∷ Hear 5 ∷ Send 1 ∷ Other (Take 5) ∷ Arrive 1 6 ∷ Other Release ∷ Other (Take 5) ∷ []
