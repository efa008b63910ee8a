-- The run of a journal: the effect of each event on the state of a channel, and the journals that are lawful.
use Rattle.std.specs.Prelude.{◌≡◌, ℕ, ◌+◌, ◌<◌, Bool, true, ◌==◌, ◌&&◌, nat_lt, List, [], ◌∷◌, ◌++◌, length, map, drop, Any, Option, IsSome, if◌then◌else◌}
use Rattle.tc_link.specs.Frame.{IsWhole, header_of}
use Rattle.tc_link.specs.Command.{kind_of}
use Rattle.tc_link.specs.Farm.{Row, E1, E6, E10, frame_row, entry, accepts, after}
use Rattle.tc_packet.specs.declared.Service.{Service}
use Rattle.tc_packet.specs.declared.Service.TheVariants.{Ad, Bd}
use Rattle.tc_packet.specs.Reassembly.{at_most, stream, unit_ended}
use Rattle.tc_queues.specs.declared.settings.Settings.{Settings}
use Rattle.tc_channel.specs.declared.event.Event.{Event}
use Rattle.tc_channel.specs.declared.event.Event.TheVariants.{Frame, Release, Take, TakeUnit}
use Rattle.tc_queues.specs.ChannelState.{ChannelState, Queue, first_state_within, no_limits, buffer, has_room}
use Rattle.tc_queues.specs.Admission.{map_of, offered}

-- the data field of a frame
abbrev pub field_of : List ℕ → List ℕ
field_of octets = drop 5 octets

-- the row of FARM-1's table for a frame that arrives when the channel is in this state
abbrev pub row_of : Settings → ChannelState → List ℕ → Row
row_of s state octets = frame_row s.width state.report.vr (kind_of (header_of octets) (field_of octets)) (has_room s state)

-- The unit that a data field ends in reassembly. It is `None` if the field ends no unit, or if the unit is longer than
-- the limit of its MAP.
abbrev pub unit_of : ChannelState → Service → List ℕ → Option (List ℕ)
unit_of state service field = at_most (state.limit (map_of field)) (unit_ended state.segmented (stream service (map_of field) state.passed) field)

-- The state after a data field was passed to reassembly. If the field ends a unit (`unit_of`), the unit was offered to
-- the queues, and each queue has admitted the items that it wants, as far as it has room for them.
unfoldable pub passed_on : Service → List ℕ → ChannelState → ChannelState
passed_on service field state = record (offered field (unit_of state service field) state) { passed = state.passed ++ record { service = service; field = field } ∷ [] }

-- The state after a frame, apart from FARM-1's components. The data field of an accepted AD frame is buffered, and the
-- data field of an accepted BD frame is passed on.
abbrev pub kept : Row → Bool → List ℕ → ChannelState → ChannelState
kept E1 true octets state = record state { accepted = state.accepted ++ record { ns = (header_of octets).ns; field = field_of octets } ∷ [] }
kept E6 true octets state = passed_on Bd (field_of octets) state
kept _ _ octets state = state

abbrev pub after_frame : Row → List ℕ → ChannelState → ChannelState
after_frame row octets state = record (kept row (accepts row state.report) octets state) { report = after row state.report }

abbrev pub first_of : List (List ℕ) → List ℕ
first_of [] = []
first_of (x ∷ xs) = x

-- the state after the oldest data field left the buffer and was passed on
abbrev pub after_release : ChannelState → ChannelState
after_release state = record (passed_on Ad (first_of (buffer state)) state) { released = state.released + 1; report = after E10 state.report }

-- The queue after a take with this key. If the queue has the key and an item waits in it, one more item is counted as
-- taken. Otherwise the queue is unchanged.
abbrev pub taken_from : ℕ → Queue → Queue
taken_from key q = if q.key == key && nat_lt q.taken (length q.admitted) then record q { taken = q.taken + 1 } else q

-- the state after the oldest packet left the queue with this APID
abbrev pub after_take : ℕ → ChannelState → ChannelState
after_take apid state = record state { queues = map (taken_from apid) state.queues }

-- the state after the oldest unit left the queue of this MAP
abbrev pub after_take_unit : ℕ → ChannelState → ChannelState
after_take_unit map_id state = record state { units = map (taken_from map_id) state.units }

-- an item waits in a queue with this key
abbrev pub HasItem : ℕ → List Queue → Type 0
HasItem key queues = Any (λ (q : Queue). (q.key ≡ key) × (q.taken < length q.admitted)) queues

-- the event can happen in the state
abbrev pub HasStep : Settings → ChannelState → Event → Type 0
HasStep s state (Frame octets) = IsWhole octets × IsSome (entry (row_of s state octets) state.report)
HasStep s state Release = state.released < length state.accepted
HasStep s state (Take apid) = HasItem apid state.queues
HasStep s state (TakeUnit map_id) = HasItem map_id state.units

-- The state after the event. If the event can't happen, the value doesn't matter, because the journal isn't lawful.
abbrev pub step : Settings → ChannelState → Event → ChannelState
step s state (Frame octets) = after_frame (row_of s state octets) octets state
step s state Release = after_release state
step s state (Take apid) = after_take apid state
step s state (TakeUnit map_id) = after_take_unit map_id state

abbrev pub run_from : Settings → ChannelState → List Event → ChannelState
run_from s state [] = state
run_from s state (e ∷ es) = run_from s (step s state e) es

-- each event can happen in the state that the events before it leave
abbrev pub AreSteps : Settings → ChannelState → List Event → Type 0
AreSteps s state [] = Unit {0}
AreSteps s state (e ∷ es) = HasStep s state e × AreSteps s (step s state e) es

-- the state that a journal leads to, with a limit for each MAP
unfoldable pub run_within : (ℕ → ℕ) → Settings → List Event → ChannelState
run_within limits s journal = run_from s (first_state_within limits s) journal

-- each event of the journal can happen in the state that the events before it lead to, with a limit for each MAP
unfoldable pub IsLawfulWithin : (ℕ → ℕ) → Settings → List Event → Type 0
IsLawfulWithin limits s journal = AreSteps s (first_state_within limits s) journal

-- The definitions that follow are the run of a channel without limits by MAP.

abbrev pub run : Settings → List Event → ChannelState
run s journal = run_within no_limits s journal

abbrev pub IsLawful : Settings → List Event → Type 0
IsLawful s journal = IsLawfulWithin no_limits s journal
