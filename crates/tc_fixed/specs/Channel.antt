-- The contents of a channel with fixed memory. The core holds the state after the run of the channel's journal within
-- its limits, and a channel with these settings can have these limits.
use Rattle.std.specs.Prelude.{List}
use Rattle.tc_queues.specs.declared.settings.Settings.{Settings}
use Rattle.tc_channel.specs.declared.event.Event.{Event}
use Rattle.tc_channel.specs.ChannelCore.{Parts, HoldsInRooms}
use Rattle.tc_fixed.specs.Limits.{AreLimits, limit_of}
use Rattle.tc_fixed.specs.declared.limits.Limits.{Limits}

pub record HoldsWithLimits (given : Limits) (s : Settings) (journal : List Event) (parts : Parts) : Type 0 where
  pub rooms : HoldsInRooms (limit_of given) s journal parts
  pub limits : AreLimits s given
