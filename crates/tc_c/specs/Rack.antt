-- A frame that is brought to one of the channels in the caller's memory: the channel that it is for, the reply, and the
-- channels after the call.
use Rattle.std.specs.Prelude.{◌≡◌, ◌≢◌, ◌≤◌, ◌⊎◌, ℕ, Bool, true, false, not, List, length, map, slice_get, slice_set, Option, Some}
use Rattle.tc_link.specs.Bits.{bit}
use Rattle.tc_link.specs.Frame.{IsWhole, BeginsWith, header_of, fault_of}
use Rattle.tc_link.specs.declared.frame.FrameFault.{FrameFault}
use Rattle.tc_edges.specs.Fecf.Candidate.{IsDelimited, is_fill}
use Rattle.tc_edges.specs.Fecf.FrameWithField.{frame_with_field, taking_fault_of}
use Rattle.tc_edges.specs.declared.fecf.frames.FieldFault.{FieldFault}
use Rattle.tc_link.specs.declared.location.LocateFault.{LocateFault}
use Rattle.tc_link.specs.declared.location.LocateFault.TheVariants.{Frame, OtherSpacecraft, UnknownChannel}
use Rattle.tc_channel.specs.declared.event.Event.TheVariants as events
use Rattle.tc_queues.specs.declared.reply.FrameReply.{FrameReply}
use Rattle.tc_channel.specs.Reply.{frame_reply_within}
use Rattle.tc_fixed.specs.History.{LimitedHistory, with_limited_event}
use Rattle.tc_fixed.specs.Limits.{limit_of}
use Rattle.tc_c.specs.declared.seat.Seat.{Seat}
use Rattle.tc_c_base.specs.declared.status.Status.{Status}
use Rattle.tc_c_base.specs.declared.status.Status.TheVariants.{Done}
use Rattle.tc_c.specs.declared.rack.RackReplyRecord.{RackReplyRecord}
use Rattle.tc_c.specs.declared.rack.CandidateReplyRecord.{CandidateReplyRecord}
use Rattle.tc_c.specs.declared.rack.PlaceRecord.{PlaceRecord}
use Rattle.tc_c_base.specs.Status.{code_of}
use Rattle.tc_c.specs.Status.{frame_status, locate_status, field_status}

-- the channel in each seat, if one is held there
abbrev pub channels_in : List Seat → List (Option LimitedHistory)
channels_in seats = map (λ (seat : Seat). seat.place.channel) seats

-- the channel at this place is `h`, which has this virtual channel id
abbrev pub IsHeldAt : List (Option LimitedHistory) → ℕ → ℕ → LimitedHistory → Type 0
IsHeldAt channels vcid place h = (slice_get channels place ≡ Some (Some h)) × (h.settings.vcid ≡ vcid)

-- the channel at this place is the first one that has this id
abbrev pub IsFirstWithVcid : List (Option LimitedHistory) → ℕ → ℕ → LimitedHistory → Type 0
IsFirstWithVcid channels vcid place h =
    IsHeldAt channels vcid place h × ((at : ℕ) (other : LimitedHistory) → IsHeldAt channels vcid at other → place ≤ at)

-- some channel has this id
abbrev pub IsHeld : List (Option LimitedHistory) → ℕ → Type 0
IsHeld channels vcid = (place : ℕ) × (h : LimitedHistory) × IsHeldAt channels vcid place h

-- the octets begin with this frame of the spacecraft, which is for this channel
abbrev pub IsLocatedAmong : List (Option LimitedHistory) → ℕ → List ℕ → ℕ → List ℕ → LimitedHistory → Type 0
IsLocatedAmong channels scid octets place frame h =
    BeginsWith octets frame × ((header_of frame).scid ≡ scid) × IsFirstWithVcid channels (header_of frame).vcid place h

-- the reason why octets are for none of the channels: the first of these faults that applies
abbrev pub IsLocateFaultAmong : List (Option LimitedHistory) → ℕ → List ℕ → LocateFault → Type 0
IsLocateFaultAmong channels scid octets (Frame fault) = fault_of octets ≡ Some fault
IsLocateFaultAmong channels scid octets OtherSpacecraft = (frame : List ℕ) × BeginsWith octets frame × ((header_of frame).scid ≢ scid)
IsLocateFaultAmong channels scid octets UnknownChannel =
    (frame : List ℕ) × BeginsWith octets frame × ((header_of frame).scid ≡ scid) × ¬ IsHeld channels (header_of frame).vcid

abbrev pub rack_reply : ℕ → FrameReply → RackReplyRecord
rack_reply vcid reply = record {
  status = code_of Done;
  queued = reply.delivery.queued;
  dropped = reply.delivery.dropped;
  event = reply.act.event;
  accepted = bit reply.act.accepted;
  rest = bit reply.delivery.rest;
  vcid = vcid;
}

abbrev pub no_rack_reply : Status → RackReplyRecord
no_rack_reply fault = record { status = code_of fault; queued = 0; dropped = 0; event = 0; accepted = 0; rest = 0; vcid = 0 }

abbrev pub no_place : Status → PlaceRecord
no_place fault = record { status = code_of fault; place = 0 }

-- the reply of a channel to a frame
abbrev pub replied : LimitedHistory → List ℕ → RackReplyRecord
replied h frame = rack_reply h.settings.vcid (frame_reply_within (limit_of h.limits) h.settings h.journal frame)

-- the channel that the frame is for takes it in, and all others are as they were
abbrev pub IsTakenIn : List (Option LimitedHistory) → ℕ → List ℕ → RackReplyRecord → List (Option LimitedHistory) → Type 0
IsTakenIn old scid octets reply new =
    (place : ℕ) × (frame : List ℕ) × (h : LimitedHistory) × IsLocatedAmong old scid octets place frame h
    × (reply ≡ replied h frame) × (new ≡ slice_set old place (Some (with_limited_event h (events.Frame frame))))

-- the octets are for none of the channels, and all channels are as they were
abbrev pub IsUnlocated : List (Option LimitedHistory) → ℕ → List ℕ → RackReplyRecord → List (Option LimitedHistory) → Type 0
IsUnlocated old scid octets reply new =
    (fault : LocateFault) × IsLocateFaultAmong old scid octets fault × (reply ≡ no_rack_reply (locate_status fault)) × (new ≡ old)

abbrev pub IsRackReplied : List (Option LimitedHistory) → ℕ → List ℕ → RackReplyRecord → List (Option LimitedHistory) → Type 0
IsRackReplied old scid octets reply new = IsTakenIn old scid octets reply new ⊎ IsUnlocated old scid octets reply new

-- The reply to a frame. If the flag is set, the frame must end with a frame error control field, and it is brought to
-- its channel without this field.
abbrev pub IsEndedReplied : List (Option LimitedHistory) → ℕ → Bool → List ℕ → RackReplyRecord → List (Option LimitedHistory) → Type 0
IsEndedReplied old scid false frame reply new = IsRackReplied old scid frame reply new
IsEndedReplied old scid true frame reply new =
    ((plain : List ℕ) × IsWhole plain × (frame ≡ frame_with_field plain) × IsRackReplied old scid plain reply new)
    ⊎ ((fault : FieldFault) × (taking_fault_of frame ≡ Some fault) × (reply ≡ no_rack_reply (field_status fault)) × (new ≡ old))

-- the reply with the length of the frame, and with a flag that is set if more than fill follows the frame
abbrev pub candidate_reply : RackReplyRecord → ℕ → Bool → CandidateReplyRecord
candidate_reply reply length more = record {
  status = reply.status;
  queued = reply.queued;
  dropped = reply.dropped;
  event = reply.event;
  accepted = reply.accepted;
  rest = reply.rest;
  vcid = reply.vcid;
  more = bit more;
  length = length;
}

abbrev pub no_candidate_reply : Status → CandidateReplyRecord
no_candidate_reply fault = candidate_reply (no_rack_reply fault) 0 false

-- Either the octets begin with a frame, whose end its length field determines, and this frame gets the reply by
-- `IsEndedReplied`. Or the octets begin with no frame, and all channels are as they were.
abbrev pub IsCandidateReplied : List (Option LimitedHistory) → ℕ → Bool → List ℕ → CandidateReplyRecord → List (Option LimitedHistory) → Type 0
IsCandidateReplied old scid ends octets reply new =
    ((frame : List ℕ) × (rest : List ℕ) × (brought : RackReplyRecord) × IsDelimited octets frame rest × IsEndedReplied old scid ends frame brought new
    × (reply ≡ candidate_reply brought (length frame) (not (is_fill rest))))
    ⊎ ((fault : FrameFault) × (fault_of octets ≡ Some fault) × (reply ≡ no_candidate_reply (frame_status fault)) × (new ≡ old))
