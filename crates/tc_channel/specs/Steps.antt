-- The largest number of steps for a frame and for a release.
use Rattle.std.specs.Prelude.{ℕ, List, length, Option, None}
use Rattle.tc_link.specs.Farm.{Row, E6}
use Rattle.tc_packet.specs.declared.Service.TheVariants.{Ad, Bd}
use Rattle.tc_queues.specs.declared.settings.Settings.{Settings}
use Rattle.tc_channel.specs.declared.event.Event.{Event}
use Rattle.tc_queues.specs.ChannelState.{ChannelState, buffer, no_limits}
use Rattle.tc_channel.specs.Run.{field_of, first_of, row_of, run_within, unit_of}
use Rattle.tc_queues.specs.Steps.{delivery_steps}

-- the unit that a frame ends at once (only an accepted BD frame ends one)
abbrev pub ended_at_once : Row → List ℕ → ChannelState → Option (List ℕ)
ended_at_once E6 octets state = unit_of state Bd (field_of octets)
ended_at_once _ octets state = None

-- the largest number of steps for a frame, by the unit that it ends
unfoldable pub frame_steps_within : (ℕ → ℕ) → Settings → List Event → List ℕ → ℕ
frame_steps_within limits s journal octets = delivery_steps (ended_at_once (row_of s (run_within limits s journal) octets) octets (run_within limits s journal)) (length s.queues) (length s.maps)

-- the largest number of steps for a release, by the unit that the oldest data field ends
unfoldable pub release_steps_within : (ℕ → ℕ) → Settings → List Event → ℕ
release_steps_within limits s journal = delivery_steps (unit_of (run_within limits s journal) Ad (first_of (buffer (run_within limits s journal)))) (length s.queues) (length s.maps)

-- The definitions that follow are the steps of a channel without limits by MAP.

abbrev pub frame_steps : Settings → List Event → List ℕ → ℕ
frame_steps s journal octets = frame_steps_within no_limits s journal octets

abbrev pub release_steps : Settings → List Event → ℕ
release_steps s journal = release_steps_within no_limits s journal
