-- The view that a contract has of a channel: its settings and its events, the oldest first.
use Rattle.std.specs.Prelude.{◌<◌, List, [], ◌∷◌, ◌++◌, length}
use Rattle.tc_queues.specs.declared.settings.Settings.{Settings}
use Rattle.tc_channel.specs.declared.event.Event.{Event}
use Rattle.tc_channel.specs.declared.event.Event.TheVariants as events
use Rattle.tc_channel.specs.declared.lent.LentEvent.{LentEvent}
use Rattle.tc_channel.specs.declared.lent.LentEvent.TheVariants.{Frame, Release, Take, TakeUnit}

pub record History : Type 0 where
  pub settings : Settings
  pub journal : List Event

-- the channel after one more event
abbrev pub with_event : History → Event → History
with_event history event = record history { journal = history.journal ++ event ∷ [] }

-- the event as a journal has it, with the octets themselves in place of a borrow
abbrev pub event_of : LentEvent → Event
event_of (Frame octets) = events.Frame octets.now
event_of Release = events.Release
event_of (Take apid) = events.Take apid
event_of (TakeUnit map_id) = events.TakeUnit map_id

-- the channel has fewer than 2^64 - 1 events, so that the number that it reports is exact
abbrev pub IsNumberReported : History → Type 0
IsNumberReported channel = length channel.journal < 18446744073709551615
