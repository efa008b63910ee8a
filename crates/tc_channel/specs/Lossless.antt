-- The packets and units that the replies of a channel report as dropped, over a journal.
use Rattle.std.specs.Prelude.{◌≡◌, ℕ, List, [], ◌∷◌}
use Rattle.tc_queues.specs.declared.settings.Settings.{Settings}
use Rattle.tc_channel.specs.declared.event.Event.{Event}
use Rattle.tc_channel.specs.declared.event.Event.TheVariants.{Frame, Release, Take, TakeUnit}
use Rattle.tc_queues.specs.ChannelState.{ChannelState}
use Rattle.tc_channel.specs.Reply.{frame_reply_at, release_reply_at}
use Rattle.tc_channel.specs.Run.{step}

-- the number of packets, or units, that the reply to an event reports as dropped
abbrev pub dropped_by : Settings → ChannelState → Event → ℕ
dropped_by s state (Frame octets) = (frame_reply_at s state octets).delivery.dropped
dropped_by s state Release = (release_reply_at state).dropped
dropped_by s state (Take apid) = 0
dropped_by s state (TakeUnit map_id) = 0

-- no reply to these events, from this state on, reports a drop
abbrev pub DropsNone : Settings → ChannelState → List Event → Type 0
DropsNone s state [] = Unit {0}
DropsNone s state (e ∷ es) = (dropped_by s state e ≡ 0) × DropsNone s (step s state e) es
