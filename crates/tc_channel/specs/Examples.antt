-- Short journals with results that are worked out by hand. The frames are given octet by octet.
use Rattle.std.specs.Prelude.{ℕ, ◌==◌, if◌then◌else◌, Bool, true, false, List, [], ◌∷◌, replicate}
use Rattle.tc_link.specs.declared.Link.{Link}
use Rattle.tc_packet.specs.declared.Service.{Service}
use Rattle.tc_packet.specs.Reassembly.{Passed}
use Rattle.tc_queues.specs.declared.settings.Settings.{Settings}
use Rattle.tc_queues.specs.declared.settings.QueueSetting.{QueueSetting}
use Rattle.tc_queues.specs.declared.settings.MapSetting.{MapSetting}
use Rattle.tc_channel.specs.declared.event.Event.{Event}
use Rattle.tc_channel.specs.declared.event.Event.TheVariants.{Frame}

-- channel 1 with a window of 10, a buffer for `fields` data fields, V(R) 0, and a queue for one packet of application 5
abbrev pub buffer_of : ℕ → Settings
buffer_of fields = record { vcid = 1; width = 10; buffer = fields; first = 0; segmented = true; queues = record { apid = 5; capacity = 1 } ∷ []; maps = [] }

-- channel 1 with a buffer for one data field and without segment headers
abbrev pub plain : Settings
plain = record { vcid = 1; width = 10; buffer = 1; first = 0; segmented = false; queues = record { apid = 5; capacity = 1 } ∷ []; maps = [] }

-- channel 1 with a buffer for one data field, and the chosen MAP 3 with a queue for one unit
abbrev pub map_3_chosen : Settings
map_3_chosen = record { vcid = 1; width = 10; buffer = 1; first = 0; segmented = true; queues = record { apid = 5; capacity = 1 } ∷ []; maps = record { map = 3; capacity = 1 } ∷ [] }

-- a limit of `octets` octets for the units of MAP `own`, and of 65,542 octets, the size of the largest unit, for those
-- of other MAPs
abbrev pub limited : ℕ → ℕ → ℕ → ℕ
limited own octets map_id = if map_id == own then octets else 65542

abbrev pub link_up : Link
link_up = record { no_rf = false; no_bit_lock = false }

-- frames for spacecraft 42 and channel 1, which are of Type-AD with N(S) 0 and MAP 0 unless their comment says
-- otherwise

-- a frame with this N(S), whose data is an unsegmented packet of application 5 with the one octet aa
abbrev pub packet_octets : ℕ → List ℕ
packet_octets ns = 0x00 ∷ 0x2a ∷ 0x04 ∷ 0x0c ∷ ns ∷ 0xc0 ∷ 0x10 ∷ 0x05 ∷ 0xc0 ∷ 0x00 ∷ 0x00 ∷ 0x00 ∷ 0xaa ∷ []

abbrev pub one_packet : ℕ → Event
one_packet ns = Frame (packet_octets ns)

-- a frame with N(S) 0, whose data is an unsegmented packet of application 6 with the one octet aa
abbrev pub packet_of_another : Event
packet_of_another = Frame (0x00 ∷ 0x2a ∷ 0x04 ∷ 0x0c ∷ 0x00 ∷ 0xc0 ∷ 0x10 ∷ 0x06 ∷ 0xc0 ∷ 0x00 ∷ 0x00 ∷ 0x00 ∷ 0xaa ∷ [])

-- a Type-BD frame with N(S) 0, whose data is an unsegmented packet of application 5 with the one octet aa
abbrev pub bypass_packet : List ℕ
bypass_packet = 0x20 ∷ 0x2a ∷ 0x04 ∷ 0x0c ∷ 0x00 ∷ 0xc0 ∷ 0x10 ∷ 0x05 ∷ 0xc0 ∷ 0x00 ∷ 0x00 ∷ 0x00 ∷ 0xaa ∷ []

-- Unlock, Set V(R) to 9, and a frame of Type-AC, which is reserved
abbrev pub unlock : List ℕ
unlock = 0x30 ∷ 0x2a ∷ 0x04 ∷ 0x05 ∷ 0x00 ∷ 0x00 ∷ []

abbrev pub set_v_r_to_9 : List ℕ
set_v_r_to_9 = 0x30 ∷ 0x2a ∷ 0x04 ∷ 0x07 ∷ 0x00 ∷ 0x82 ∷ 0x00 ∷ 0x09 ∷ []

abbrev pub reserved : List ℕ
reserved = 0x10 ∷ 0x2a ∷ 0x04 ∷ 0x05 ∷ 0x00 ∷ 0x00 ∷ []

-- two packets of application 5 in one unit
abbrev pub two_packets : Event
two_packets = Frame (0x00 ∷ 0x2a ∷ 0x04 ∷ 0x13 ∷ 0x00 ∷ 0xc0 ∷ 0x10 ∷ 0x05 ∷ 0xc0 ∷ 0x00 ∷ 0x00 ∷ 0x00 ∷ 0xaa ∷ 0x10 ∷ 0x05 ∷ 0xc0 ∷ 0x01 ∷ 0x00 ∷ 0x00 ∷ 0xbb ∷ [])

-- a packet of application 5 and one of application 6 in one unit
abbrev pub two_applications : Event
two_applications = Frame (0x00 ∷ 0x2a ∷ 0x04 ∷ 0x13 ∷ 0x00 ∷ 0xc0 ∷ 0x10 ∷ 0x05 ∷ 0xc0 ∷ 0x00 ∷ 0x00 ∷ 0x00 ∷ 0xaa ∷ 0x10 ∷ 0x06 ∷ 0xc0 ∷ 0x00 ∷ 0x00 ∷ 0x00 ∷ 0xbb ∷ [])

-- a packet and one more octet
abbrev pub packet_and_rest : Event
packet_and_rest = Frame (0x00 ∷ 0x2a ∷ 0x04 ∷ 0x0d ∷ 0x00 ∷ 0xc0 ∷ 0x10 ∷ 0x05 ∷ 0xc0 ∷ 0x00 ∷ 0x00 ∷ 0x00 ∷ 0xaa ∷ 0xff ∷ [])

-- a packet of telemetry, and an idle packet
abbrev pub telemetry_and_idle : Event
telemetry_and_idle = Frame (0x00 ∷ 0x2a ∷ 0x04 ∷ 0x13 ∷ 0x00 ∷ 0xc0 ∷ 0x00 ∷ 0x05 ∷ 0xc0 ∷ 0x00 ∷ 0x00 ∷ 0x00 ∷ 0xaa ∷ 0x17 ∷ 0xff ∷ 0xc0 ∷ 0x00 ∷ 0x00 ∷ 0x00 ∷ 0xaa ∷ [])

-- a packet in two segments, the last of them with N(S) 1
abbrev pub first_segment : Event
first_segment = Frame (0x00 ∷ 0x2a ∷ 0x04 ∷ 0x08 ∷ 0x00 ∷ 0x40 ∷ 0x10 ∷ 0x05 ∷ 0xc0 ∷ [])

abbrev pub last_segment : Event
last_segment = Frame (0x00 ∷ 0x2a ∷ 0x04 ∷ 0x0a ∷ 0x01 ∷ 0x80 ∷ 0x01 ∷ 0x00 ∷ 0x01 ∷ 0xaa ∷ 0xbb ∷ [])

-- a last segment without a first one before it
abbrev pub lone_last_segment : Event
lone_last_segment = Frame (0x00 ∷ 0x2a ∷ 0x04 ∷ 0x06 ∷ 0x00 ∷ 0x80 ∷ 0xaa ∷ [])

-- a Type-BD frame with a last segment
abbrev pub bypass_last_segment : List ℕ
bypass_last_segment = 0x20 ∷ 0x2a ∷ 0x04 ∷ 0x06 ∷ 0x00 ∷ 0x80 ∷ 0xff ∷ []

-- a packet that is the whole data field, as on a channel without segment headers
abbrev pub plain_packet : Event
plain_packet = Frame (0x00 ∷ 0x2a ∷ 0x04 ∷ 0x0b ∷ 0x00 ∷ 0x10 ∷ 0x05 ∷ 0xc0 ∷ 0x00 ∷ 0x00 ∷ 0x00 ∷ 0xaa ∷ [])

-- a frame with three octets on MAP 3
abbrev pub map_3_octets : Event
map_3_octets = Frame (0x00 ∷ 0x2a ∷ 0x04 ∷ 0x08 ∷ 0x00 ∷ 0xc3 ∷ 0xaa ∷ 0xbb ∷ 0xcc ∷ [])

-- a Type-BD frame with two octets on MAP 3, and a Type-BD frame with no octets on MAP 3
abbrev pub bypass_map_3_octets : List ℕ
bypass_map_3_octets = 0x20 ∷ 0x2a ∷ 0x04 ∷ 0x07 ∷ 0x00 ∷ 0xc3 ∷ 0xaa ∷ 0xbb ∷ []

abbrev pub bypass_map_3_empty : Event
bypass_map_3_empty = Frame (0x20 ∷ 0x2a ∷ 0x04 ∷ 0x05 ∷ 0x00 ∷ 0xc3 ∷ [])

-- settings with a buffer for 4 data fields and two queues for 4 packets each, with segment headers or without
abbrev pub two_queues : Bool → Settings
two_queues segmented = record { vcid = 1; width = 10; buffer = 4; first = 0; segmented = segmented; queues = record { apid = 5; capacity = 4 } ∷ record { apid = 6; capacity = 4 } ∷ []; maps = [] }

-- a buffer for one data field, 70 queues for 256 packets each, and a chosen MAP with a queue for 3 units
abbrev pub many_queues : Settings
many_queues = record { vcid = 1; width = 10; buffer = 1; first = 0; segmented = true; queues = replicate 70 (record { apid = 5; capacity = 256 }); maps = record { map = 3; capacity = 3 } ∷ [] }

-- Two data fields that came by these services. They are a first and a last segment on MAP 3. If both came by the same
-- service, their unit is the packet of application 5 with the octets aa and bb.
abbrev pub in_two_segments : Service → Service → List Passed
in_two_segments one other =
    record { service = one; field = 0x43 ∷ 0x10 ∷ 0x05 ∷ 0xc0 ∷ [] } ∷ record { service = other; field = 0x83 ∷ 0x01 ∷ 0x00 ∷ 0x01 ∷ 0xaa ∷ 0xbb ∷ [] } ∷ []

abbrev pub joined_packet : List ℕ
joined_packet = 0x10 ∷ 0x05 ∷ 0xc0 ∷ 0x01 ∷ 0x00 ∷ 0x01 ∷ 0xaa ∷ 0xbb ∷ []

-- settings of a channel that starts with V(R) 0, by whether there are segment headers, the virtual channel identifier,
-- the width of the window, the size of the buffer, the queues and the chosen MAPs
abbrev pub channel_of : Bool → ℕ → ℕ → ℕ → List QueueSetting → List MapSetting → Settings
channel_of segmented vcid width buffer queues maps = record { vcid = vcid; width = width; buffer = buffer; first = 0; segmented = segmented; queues = queues; maps = maps }

-- queues for two applications, each with this capacity
abbrev pub two_apids : ℕ → ℕ → ℕ → List QueueSetting
two_apids one other capacity = record { apid = one; capacity = capacity } ∷ record { apid = other; capacity = capacity } ∷ []

-- two chosen MAPs, each with this capacity
abbrev pub two_maps : ℕ → ℕ → ℕ → List MapSetting
two_maps one other capacity = record { map = one; capacity = capacity } ∷ record { map = other; capacity = capacity } ∷ []

-- the data fields of a sender: frame `number` has the data field `field`, and all other data fields are empty
abbrev pub sent_as : ℕ → List ℕ → ℕ → List ℕ
sent_as number field i = if i == number then field else []
