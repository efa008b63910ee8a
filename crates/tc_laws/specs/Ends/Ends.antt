-- The way from a sender's packets, through units and data fields, to the packets and the units that a receiver makes.
use Rattle.std.specs.Prelude.{◌≡◌, ℕ, zero, suc, ◌≤◌, Bool, List, [], ◌∷◌, ◌++◌, ◌==◌, ◌&&◌, true, false, length, map, filter, is_some, ◌<◌, None, Some, slice_get, slice_index_or, if◌then◌else◌}
use Rattle.std.specs.List.{AllByRecursion, flat_map}
use Rattle.tc_packet.specs.declared.Service.{Service}
use Rattle.tc_packet.specs.declared.Service.TheVariants.{Ad, Bd}
use Rattle.tc_packet.specs.Reassembly.{IsUnit, Passed, largest_unit, same_service, unit_at}
use Rattle.tc_packet.specs.SpacePacket.{IsPacket, joined, packets_of}
use Rattle.tc_queues.specs.Admission.{is_for, map_of}
use Rattle.tc_channel.specs.Given.{as_list, packets_given}
use Rattle.tc_channel.specs.declared.event.Event.{Event}
use Rattle.tc_queues.specs.declared.settings.Settings.{Settings}
use Rattle.tc_queues.specs.ChannelState.{Queue, queue_of, empty_unit_queue, first_state_within, waiting}
use Rattle.tc_channel.specs.Lossless.{DropsNone}
use Rattle.tc_queues.specs.Settings.{IsAllowed}
use Rattle.tc_channel.specs.Run.{run_within}
use Rattle.tc_channel.specs.Through.{IsPartOf, all_made, packets_made, released_since, sent_from, unit_made}
use Rattle.tc_link.specs.declared.frame.Header.{Header}
use Rattle.tc_laws.specs.Loops.Loop.{Action, Send}
use Rattle.tc_edges.specs.Write.Frames.{IsMadeFrame, header_later}
use Rattle.tc_edges.specs.Write.Parts.{segments_needed, segment_at, piece_at}
use Rattle.tc_edges.specs.Write.Segments.{AreSegments}

-- the units that the data fields of one stream end, one after the other, if the fields `before` came first
abbrev pub units_ended_by : List (List ℕ) → List (List ℕ) → List (List ℕ)
units_ended_by before [] = []
units_ended_by before (field ∷ fields) = as_list (unit_at before field) ++ units_ended_by (before ++ field ∷ []) fields

-- After the fields `before` of their stream, the last of these fields ends this unit, and none of the others ends a
-- unit.
pub record EndAtLast (before fields : List (List ℕ)) (unit : List ℕ) : Type 0 where
  pub first : List (List ℕ)
  pub last : List ℕ
  pub parts : fields ≡ first ++ last ∷ []
  pub none : units_ended_by before first ≡ []
  pub ends : IsUnit (before ++ first) last unit

-- the sender can send this unit on this MAP, with segment headers or without
abbrev pub IsSendable : (ℕ → ℕ) → Bool → ℕ → List ℕ → Type 0
IsSendable limits true map_id unit = (1 ≤ length unit) × (length unit ≤ largest_unit) × (length unit ≤ limits map_id)
IsSendable limits false map_id unit = (length unit ≤ largest_unit) × (length unit ≤ limits (map_of unit))

-- On this MAP, the data fields carry these units one after the other. Each unit is divided into segments, and each has
-- a segment size of its own. Without segment headers each data field is a unit.
abbrev pub CarryUnits : Bool → ℕ → List (List ℕ) → List (List ℕ) → Type 0
CarryUnits false map_id units fields = fields ≡ units
CarryUnits true map_id [] fields = fields ≡ []
CarryUnits true map_id (unit ∷ units) fields =
    (size : ℕ) × (own : List (List ℕ)) × (later : List (List ℕ)) × (1 ≤ size) × (fields ≡ own ++ later) × AreSegments map_id size unit own × CarryUnits true map_id units later

abbrev pub is_same_stream : Service → ℕ → Service → ℕ → Bool
is_same_stream service map_id other id = same_service service other && id == map_id

-- the MAP of a data field, or MAP 0 without segment headers, because all fields then come on one stream
abbrev pub map_in : Bool → List ℕ → ℕ
map_in true field = map_of field
map_in false field = 0

abbrev pub is_in : Bool → Service → ℕ → Passed → Bool
is_in segmented service map_id p = is_same_stream service map_id p.service (map_in segmented p.field)

-- the data fields of one stream, in their order
abbrev pub stream_in : Bool → Service → ℕ → List Passed → List (List ℕ)
stream_in segmented service map_id passed = map (λ p. p.field) (filter (is_in segmented service map_id) passed)

-- the unit that one more data field makes, if the field is of this stream
abbrev pub stream_unit : (ℕ → ℕ) → Settings → Service → ℕ → List Passed → Passed → List (List ℕ)
stream_unit limits s service map_id before p = if is_in s.segmented service map_id p then as_list (unit_made limits s before p) else []

-- the packets for an application among those that units are cut into
abbrev pub packets_for : ℕ → List (List ℕ) → List (List ℕ)
packets_for apid units = filter (is_for apid) (flat_map packets_of units)

-- the octets of units that are given as lists of packets
abbrev pub all_joined : List (List (List ℕ)) → List (List ℕ)
all_joined units = map joined units

abbrev pub AreAllPackets : List (List (List ℕ)) → Type 0
AreAllPackets units = AllByRecursion (AllByRecursion IsPacket) units

-- the packets for an application in units of packets, in their order
abbrev pub packets_to : ℕ → List (List (List ℕ)) → List (List ℕ)
packets_to apid units = filter (is_for apid) (flat_map (λ packets. packets) units)

-- the items that a sender sends on each stream, by service and MAP
abbrev pub Sent : Type 0
Sent = Service → ℕ → List (List ℕ)

-- The data fields carry the units that were sent, stream by stream. Fields of different streams come in any order.
pub record CarrySent (limits : ℕ → ℕ) (segmented : Bool) (sent : Sent) (passed : List Passed) : Type 0 where
  pub carry : (service : Service) (map_id : ℕ) → CarryUnits segmented map_id (sent service map_id) (stream_in segmented service map_id passed)
  pub sendable : (service : Service) (map_id : ℕ) → AllByRecursion (IsSendable limits segmented map_id) (sent service map_id)

-- the flag that is set if the settings choose the MAP
abbrev pub is_chosen_map : Settings → ℕ → Bool
is_chosen_map s map_id = is_some (queue_of map_id (map empty_unit_queue s.maps))

-- units of packets on each stream
abbrev pub PacketsSent : Type 0
PacketsSent = Service → ℕ → List (List (List ℕ))

abbrev pub joined_on : PacketsSent → Sent
joined_on sent service map_id = all_joined (sent service map_id)

-- a packet, and the stream that it came on
pub record OnStream : Type 0 where
  pub service : Service
  pub map_id : ℕ
  pub packet : List ℕ

abbrev pub packet_on : OnStream → List ℕ
packet_on p = p.packet

abbrev pub is_from : Service → ℕ → OnStream → Bool
is_from service map_id p = is_same_stream service map_id p.service p.map_id

-- The packets are a merge. Each packet came on one stream, and `on` has the packets of each stream in their order.
pub record AreMerged (packets : List (List ℕ)) (on : Service → ℕ → List (List ℕ)) : Type 0 where
  pub came : List OnStream
  pub all : map packet_on came ≡ packets
  pub each : (service : Service) (map_id : ℕ) → map packet_on (filter (is_from service map_id) came) ≡ on service map_id

-- these packets, or none if the MAP is chosen, because its units are taken whole
abbrev pub unless_chosen : Settings → ℕ → List (List ℕ) → List (List ℕ)
unless_chosen s map_id packets = if is_chosen_map s map_id then [] else packets

-- the packets for an application that are sent on each stream, or none if the MAP of the stream is chosen
abbrev pub packets_sent_on : Settings → ℕ → PacketsSent → Service → ℕ → List (List ℕ)
packets_sent_on s apid sent service map_id = unless_chosen s map_id (packets_to apid (sent service map_id))

abbrev pub fields_in_order : List Passed → List (List ℕ)
fields_in_order passed = map (λ p. p.field) passed

-- the data fields of a MAP
abbrev pub on_map : Bool → ℕ → List (List ℕ) → List (List ℕ)
on_map segmented map_id fields = filter (λ field. map_in segmented field == map_id) fields

-- the first n data fields of a sender carry these units of packets, MAP by MAP, and each unit can be sent
pub record SendsPackets (limits : ℕ → ℕ) (segmented : Bool) (sent : ℕ → List ℕ) (n : ℕ) (units : ℕ → List (List (List ℕ))) : Type 0 where
  pub carry : (map_id : ℕ) → CarryUnits segmented map_id (all_joined (units map_id)) (on_map segmented map_id (sent_from sent 0 n))
  pub sendable : (map_id : ℕ) → AllByRecursion (IsSendable limits segmented map_id) (all_joined (units map_id))
  pub packets : (map_id : ℕ) → AreAllPackets (units map_id)

-- The data fields passed on up to the nth one of Type-AD. The next definition has the fields passed on after it.
abbrev pub until_ad : ℕ → List Passed → List Passed
until_ad zero passed = []
until_ad (suc n) [] = []
until_ad (suc n) (p ∷ passed) = p ∷ until_ad (if same_service Ad p.service then n else suc n) passed

abbrev pub behind_ad : ℕ → List Passed → List Passed
behind_ad zero passed = passed
behind_ad (suc n) [] = []
behind_ad (suc n) (p ∷ passed) = behind_ad (if same_service Ad p.service then n else suc n) passed

-- The data fields passed on up to the last Type-AD one that was accepted before the era, or none if there is no such
-- field. The next definition has the fields passed on after it.
abbrev pub passed_before : (ℕ → ℕ) → Settings → List Event → List Event → List Passed
passed_before limits s before journal = until_ad (length (run_within limits s before).accepted) (run_within limits s journal).passed

abbrev pub passed_in : (ℕ → ℕ) → Settings → List Event → List Event → List Passed
passed_in limits s before journal = behind_ad (length (run_within limits s before).accepted) (run_within limits s journal).passed

-- The packets for an application that come on each stream in an era. A Type-AD stream brings the packets in the units
-- of its MAP, and a Type-BD stream brings the packets that its data fields make. There are none if the MAP is chosen.
abbrev pub packets_in_era : (ℕ → ℕ) → Settings → ℕ → List Event → List Event → (ℕ → List (List (List ℕ))) → Service → ℕ → List (List ℕ)
packets_in_era limits s apid before journal units Ad map_id = unless_chosen s map_id (packets_to apid (units map_id))
packets_in_era limits s apid before journal units Bd map_id =
    unless_chosen s map_id (packets_for apid (all_made (stream_unit limits s Bd map_id) (passed_before limits s before journal) (passed_in limits s before journal)))

-- All packets that were ever taken for an application come, in order, first from the data fields before the era, and
-- then from a merge of those that come on each stream in the era. Some may be left out (`given`). If all n data fields
-- of the sender were released, the fields make exactly these packets (`whole`). If no reply reports a drop either, and
-- nothing waits any more, exactly these packets were taken, and none is left out (`all`).
pub record AreGivenOf (limits : ℕ → ℕ) (s : Settings) (apid : ℕ) (before journal : List Event) (n : ℕ) (units : ℕ → List (List (List ℕ))) : Type 0 where
  pub merged : List (List ℕ)
  pub merge : AreMerged merged (packets_in_era limits s apid before journal units)
  pub given : IsPartOf (packets_given s apid (first_state_within limits s) journal) (packets_made limits s apid (passed_before limits s before journal) ++ merged)
  pub whole : released_since limits s before journal ≡ n → packets_made limits s apid (run_within limits s journal).passed ≡ packets_made limits s apid (passed_before limits s before journal) ++ merged
  pub all : (q : Queue) → IsAllowed s → DropsNone s (first_state_within limits s) journal → released_since limits s before journal ≡ n
      → queue_of apid (run_within limits s journal).queues ≡ Some q → waiting q ≡ []
      → packets_given s apid (first_state_within limits s) journal ≡ packets_made limits s apid (passed_before limits s before journal) ++ merged

-- the frames are those that carry the segments of a unit, as a sender writes them
pub record AreWritten (header : Header) (map_id size : ℕ) (unit : List ℕ) (frames : List (List ℕ)) : Type 0 where
  pub count : length frames ≡ segments_needed size (length unit)
  pub each : (k : ℕ) → k < length frames
      → IsMadeFrame (slice_index_or frames k []) (header_later header k) (Some (segment_at map_id size k unit)) (piece_at size unit k)

-- A unit of packets that a sender sends on a MAP, in segments of this number of octets. Without segment headers the
-- unit is sent whole, on MAP 0.
pub record UnitSent : Type 0 where
  pub map_id : ℕ
  pub size : ℕ
  pub packets : List (List ℕ)

-- the unit consists of packets, and can be sent on its MAP
pub record CanBeSent (limits : ℕ → ℕ) (segmented : Bool) (u : UnitSent) : Type 0 where
  pub map_id : u.map_id < 64
  pub one_stream : segmented ≡ false → u.map_id ≡ 0
  pub size : 1 ≤ u.size
  pub packets : AllByRecursion IsPacket u.packets
  pub sendable : IsSendable limits segmented u.map_id (joined u.packets)

-- these are the frames of a unit, as a sender writes them: those of its segments, or one frame whose data field is the
-- unit
abbrev pub AreFramesOf : Bool → Header → UnitSent → List (List ℕ) → Type 0
AreFramesOf true header u frames = AreWritten header u.map_id u.size (joined u.packets) frames
AreFramesOf false header u frames = (frame : List ℕ) × (frames ≡ frame ∷ []) × IsMadeFrame frame (header_later header 0) None (joined u.packets)

-- these are the frames of one unit after the other, and N(S) counts on over all units and MAPs
abbrev pub AreNumbered : Bool → Header → List UnitSent → List (List ℕ) → Type 0
AreNumbered segmented header [] frames = frames ≡ []
AreNumbered segmented header (u ∷ units) frames =
    (own : List (List ℕ)) × (later : List (List ℕ)) × (frames ≡ own ++ later) × AreFramesOf segmented header u own
    × AreNumbered segmented (header_later header (length own)) units later

-- for each unit that is sent on the MAP `id`, in order, the list of its packets
abbrev pub units_on : List UnitSent → ℕ → List (List (List ℕ))
units_on [] id = []
units_on (u ∷ units) id = if u.map_id == id then u.packets ∷ units_on units id else units_on units id

-- the first frames of a sender are the frames of this list
abbrev pub AreFrom : (ℕ → List ℕ) → List (List ℕ) → Type 0
AreFrom frames list = (i : ℕ) (frame : List ℕ) → slice_get list i ≡ Some frame → frames i ≡ frame

-- the sender sends no frame but its first n
abbrev pub SendsOnly : ℕ → List Action → Type 0
SendsOnly n session = (t i : ℕ) → slice_get session t ≡ Some (Send i) → i < n
