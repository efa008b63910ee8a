-- The packets, units and data fields that leave a channel over a journal: packets and units are taken, and data fields
-- are passed to reassembly.
use Rattle.std.specs.Prelude.{ℕ, ◌==◌, List, [], ◌∷◌, ◌++◌, map, filter, slice_get, Option, None, Some, option_map, if◌then◌else◌}
use Rattle.std.specs.Option.{option_and_then}
use Rattle.tc_packet.specs.declared.Service.{Service}
use Rattle.tc_packet.specs.Reassembly.{Passed, same_service}
use Rattle.tc_queues.specs.declared.settings.Settings.{Settings}
use Rattle.tc_channel.specs.declared.event.Event.{Event}
use Rattle.tc_channel.specs.declared.event.Event.TheVariants.{Frame, Release, Take, TakeUnit}
use Rattle.tc_queues.specs.ChannelState.{ChannelState, Queue, queue_of, waiting}
use Rattle.tc_channel.specs.Run.{step}

-- the item that a take from the queue with this key returns: the oldest item that waits there, or `None` if there is
-- none
abbrev pub oldest_in : ℕ → List Queue → Option (List ℕ)
oldest_in key queues = option_and_then (λ items. slice_get items 0) (option_map waiting (queue_of key queues))

-- the packet that an event takes for this application in a state
abbrev pub packet_given : ℕ → ChannelState → Event → Option (List ℕ)
packet_given apid state (Frame octets) = None
packet_given apid state Release = None
packet_given apid state (Take other) = if other == apid then oldest_in apid state.queues else None
packet_given apid state (TakeUnit map_id) = None

-- the unit that an event takes for this MAP in a state
abbrev pub unit_given : ℕ → ChannelState → Event → Option (List ℕ)
unit_given map_id state (Frame octets) = None
unit_given map_id state Release = None
unit_given map_id state (Take apid) = None
unit_given map_id state (TakeUnit other) = if other == map_id then oldest_in map_id state.units else None

abbrev pub as_list : Option (List ℕ) → List (List ℕ)
as_list None = []
as_list (Some item) = item ∷ []

-- all packets that the events take for this application from a state on, the oldest first
abbrev pub packets_given : Settings → ℕ → ChannelState → List Event → List (List ℕ)
packets_given s apid state [] = []
packets_given s apid state (e ∷ es) = as_list (packet_given apid state e) ++ packets_given s apid (step s state e) es

-- all units that the events take for this MAP from a state on, the oldest first
abbrev pub units_given : Settings → ℕ → ChannelState → List Event → List (List ℕ)
units_given s map_id state [] = []
units_given s map_id state (e ∷ es) = as_list (unit_given map_id state e) ++ units_given s map_id (step s state e) es

-- the data fields of a service that were passed to reassembly, the oldest first
abbrev pub fields_passed : Service → List Passed → List (List ℕ)
fields_passed service passed = map (λ p. p.field) (filter (λ p. same_service service p.service) passed)
