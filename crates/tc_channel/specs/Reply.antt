-- The replies of a channel after a journal.
use Rattle.std.specs.Prelude.{◌≡◌, ℕ, List, Option, option_map, slice_get}
use Rattle.std.specs.Option.{option_and_then}
use Rattle.tc_link.specs.declared.Act.{Act}
use Rattle.tc_link.specs.declared.Link.{Link}
use Rattle.tc_link.specs.declared.Kind.TheVariants as kinds
use Rattle.tc_link.specs.Frame.{BeginsWith, header_of}
use Rattle.tc_link.specs.Command.{kind_of}
use Rattle.tc_link.specs.Clcw.{word_of}
use Rattle.tc_link.specs.Farm.{Row, E6, number_of, accepts}
use Rattle.tc_packet.specs.declared.Service.TheVariants.{Ad, Bd}
use Rattle.tc_queues.specs.declared.reply.Delivery.{Delivery}
use Rattle.tc_queues.specs.declared.reply.FrameReply.{FrameReply}
use Rattle.tc_queues.specs.declared.settings.Settings.{Settings}
use Rattle.tc_channel.specs.declared.event.Event.{Event}
use Rattle.tc_queues.specs.ChannelState.{ChannelState, no_limits, buffer, queue_of, waiting}
use Rattle.tc_queues.specs.Admission.{is_chosen, count_queued}
use Rattle.tc_channel.specs.Run.{field_of, row_of, unit_of, first_of, run_within}
use Rattle.tc_queues.specs.Delivering.{nothing, delivered}

-- The frame is of Type-BD. If the journal isn't recorded, no frame of another type can make a channel run out of
-- memory.
abbrev pub IsBypassData : List ℕ → Type 0
IsBypassData octets = kind_of (header_of octets) (field_of octets) ≡ kinds.Bd

-- the octets begin with a frame of Type-BD
abbrev pub BeginsWithBypassData : List ℕ → Type 0
BeginsWithBypassData octets = (frame : List ℕ) × BeginsWith octets frame × IsBypassData frame

abbrev pub delivery_of : List ℕ → Option (List ℕ) → ChannelState → Delivery
delivery_of field unit state = delivered unit (is_chosen state field) (count_queued field unit state)

-- FARM-1's event number, and whether the frame is accepted
abbrev pub act_of : Settings → ChannelState → List ℕ → Act
act_of s state octets = record { event = number_of (row_of s state octets); accepted = accepts (row_of s state octets) state.report }

abbrev pub frame_delivery : Row → List ℕ → ChannelState → Delivery
frame_delivery E6 octets state = delivery_of (field_of octets) (unit_of state Bd (field_of octets)) state
frame_delivery _ octets state = nothing

abbrev pub frame_reply_at : Settings → ChannelState → List ℕ → FrameReply
frame_reply_at s state octets = record { act = act_of s state octets; delivery = frame_delivery (row_of s state octets) octets state }

abbrev pub release_reply_at : ChannelState → Delivery
release_reply_at state = delivery_of (first_of (buffer state)) (unit_of state Ad (first_of (buffer state))) state

-- the replies of a channel with a limit for each MAP after a journal

unfoldable pub frame_reply_within : (ℕ → ℕ) → Settings → List Event → List ℕ → FrameReply
frame_reply_within limits s journal octets = frame_reply_at s (run_within limits s journal) octets

unfoldable pub release_reply_within : (ℕ → ℕ) → Settings → List Event → Delivery
release_reply_within limits s journal = release_reply_at (run_within limits s journal)

-- the packets that wait in the queue with this APID, the oldest first, or None if there is no such queue
unfoldable pub waiting_packets_within : (ℕ → ℕ) → Settings → List Event → ℕ → Option (List (List ℕ))
waiting_packets_within limits s journal apid = option_map waiting (queue_of apid (run_within limits s journal).queues)

-- the reply to a take: the oldest packet that waits, or `None` if there is none
abbrev pub take_reply_within : (ℕ → ℕ) → Settings → List Event → ℕ → Option (List ℕ)
take_reply_within limits s journal apid = option_and_then (λ packets. slice_get packets 0) (waiting_packets_within limits s journal apid)

-- the units that wait in the queue of this MAP, the oldest first, or None if the MAP isn't chosen
unfoldable pub waiting_units_within : (ℕ → ℕ) → Settings → List Event → ℕ → Option (List (List ℕ))
waiting_units_within limits s journal map_id = option_map waiting (queue_of map_id (run_within limits s journal).units)

-- the reply to the take of a unit: the oldest unit that waits, or `None` if there is none
abbrev pub unit_reply_within : (ℕ → ℕ) → Settings → List Event → ℕ → Option (List ℕ)
unit_reply_within limits s journal map_id = option_and_then (λ units. slice_get units 0) (waiting_units_within limits s journal map_id)

-- the data fields that wait in the buffer, the oldest first
unfoldable pub buffered_fields_within : (ℕ → ℕ) → Settings → List Event → List (List ℕ)
buffered_fields_within limits s journal = buffer (run_within limits s journal)

-- the CLCW (CCSDS 232.0-B, 4.2)
unfoldable pub clcw_within : (ℕ → ℕ) → Settings → List Event → Link → ℕ
clcw_within limits s journal link = word_of (run_within limits s journal).report s.vcid link

-- The definitions that follow are the replies of a channel without limits by MAP.

abbrev pub frame_reply : Settings → List Event → List ℕ → FrameReply
frame_reply s journal octets = frame_reply_within no_limits s journal octets

abbrev pub release_reply : Settings → List Event → Delivery
release_reply s journal = release_reply_within no_limits s journal

abbrev pub waiting_packets : Settings → List Event → ℕ → Option (List (List ℕ))
waiting_packets s journal apid = waiting_packets_within no_limits s journal apid

abbrev pub take_reply : Settings → List Event → ℕ → Option (List ℕ)
take_reply s journal apid = take_reply_within no_limits s journal apid

abbrev pub waiting_units : Settings → List Event → ℕ → Option (List (List ℕ))
waiting_units s journal map_id = waiting_units_within no_limits s journal map_id

abbrev pub unit_reply : Settings → List Event → ℕ → Option (List ℕ)
unit_reply s journal map_id = unit_reply_within no_limits s journal map_id

abbrev pub buffered_fields : Settings → List Event → List (List ℕ)
buffered_fields s journal = buffered_fields_within no_limits s journal

abbrev pub clcw : Settings → List Event → Link → ℕ
clcw s journal link = clcw_within no_limits s journal link
