-- A channel with fixed memory as contracts see it: its settings, its limits, and its events, the oldest first.
use Rattle.std.specs.Prelude.{List, [], ◌∷◌, ◌++◌}
use Rattle.tc_queues.specs.declared.settings.Settings.{Settings}
use Rattle.tc_channel.specs.declared.event.Event.{Event}
use Rattle.tc_fixed.specs.declared.limits.Limits.{Limits}

pub record LimitedHistory : Type 0 where
  pub settings : Settings
  pub limits : Limits
  pub journal : List Event

-- the channel one event later
abbrev pub with_limited_event : LimitedHistory → Event → LimitedHistory
with_limited_event history event = record history { journal = history.journal ++ event ∷ [] }
