-- The channels of one spacecraft in order, and changes of them.
use Rattle.std.specs.Prelude.{◌≡◌, ◌≢◌, ℕ, Bool, true, false, List, AllPairs, Any, map, slice_get, slice_set, Option, Some, None}
use Rattle.tc_link.specs.Frame.{BeginsWith, header_of, fault_of}
use Rattle.tc_link.specs.declared.clcw.Link.{Link}
use Rattle.tc_link.specs.declared.location.LocateFault.{LocateFault}
use Rattle.tc_link.specs.declared.location.LocateFault.TheVariants.{Frame, OtherSpacecraft, UnknownChannel}
use Rattle.tc_channel.specs.Holding.{holding_of}
use Rattle.tc_channel.specs.Journal.{History}
use Rattle.tc_channel.specs.declared.holding.Holding.{Holding}
use Rattle.tc_queues.specs.declared.settings.Settings.{Settings}
use Rattle.tc_rack.specs.Linked.{Linked, vcid_of, new_linked}

-- the spacecraft's id, and its channels in the order in which they were set up
pub record Racked : Type 0 where
  pub scid : ℕ
  pub channels : List Linked

-- a new rack, with a channel for each of the settings
abbrev pub new_rack : ℕ → List Settings → Racked
new_rack scid list = record { scid = scid; channels = map new_linked list }

-- the settings and the journals of the channels
abbrev pub histories : Racked → List History
histories rack = map (λ (channel : Linked). channel.history) rack.channels

-- there is a channel with this id
abbrev pub HasChannel : List Linked → ℕ → Type 0
HasChannel channels vcid = Any (λ (channel : Linked). vcid_of channel ≡ vcid) channels

-- this channel is at this place, and has this id
abbrev pub IsChannelAt : List Linked → ℕ → ℕ → Linked → Type 0
IsChannelAt channels vcid place channel = (slice_get channels place ≡ Some channel) × (vcid_of channel ≡ vcid)

-- this property holds for the channel with this id
abbrev pub IsOf : Racked → ℕ → (Linked → Type 0) → Type 0
IsOf rack vcid Holds = (place : ℕ) × (channel : Linked) × IsChannelAt rack.channels vcid place channel × Holds channel

-- the channel with this id changes as this relation allows, and all other channels are as before
abbrev pub Changes : Racked → ℕ → (Linked → Linked → Type 0) → Racked → Type 0
Changes old vcid Becomes new =
    (place : ℕ) × (before : Linked) × (after : Linked) × IsChannelAt old.channels vcid place before × Becomes before after
    × (new ≡ record old { channels = slice_set old.channels place after })

-- this is the reason why octets are for none of the channels: the first of the faults below that applies
abbrev pub IsRackLocateFault : Racked → List ℕ → LocateFault → Type 0
IsRackLocateFault rack octets (Frame f) = fault_of octets ≡ Some f
IsRackLocateFault rack octets OtherSpacecraft = (frame : List ℕ) × BeginsWith octets frame × ((header_of frame).scid ≢ rack.scid)
IsRackLocateFault rack octets UnknownChannel =
    (frame : List ℕ) × BeginsWith octets frame × ((header_of frame).scid ≡ rack.scid) × ¬ HasChannel rack.channels (header_of frame).vcid

-- no two channels have the same id
abbrev pub AreChannelsApart : List Linked → Type 0
AreChannelsApart channels = AllPairs (λ (p q : Linked). vcid_of p ≢ vcid_of q) channels

-- the octets begin with this frame of the spacecraft, which is for the channel at this place
abbrev pub IsLocatedInRack : Racked → List ℕ → ℕ → List ℕ → Type 0
IsLocatedInRack rack octets place frame =
    BeginsWith octets frame × ((header_of frame).scid ≡ rack.scid) × ((channel : Linked) × IsChannelAt rack.channels (header_of frame).vcid place channel)

-- if there is a channel with this id, its link gets these flags and the result is true, and otherwise nothing changes
-- and the result is false
abbrev pub IsLinkSet : Racked → ℕ → Link → Bool → Racked → Type 0
IsLinkSet old vcid link true new = Changes old vcid (λ before after. after ≡ record before { link = link }) new
IsLinkSet old vcid link false new = ¬ HasChannel old.channels vcid × (new ≡ old)

-- this is the state of the channel with this id, or `None` if there is no such channel
abbrev pub IsReported : Racked → ℕ → Option Holding → Type 0
IsReported rack vcid None = ¬ HasChannel rack.channels vcid
IsReported rack vcid (Some holding) =
    IsOf rack vcid (λ channel. holding ≡ holding_of channel.history.settings channel.history.journal)
