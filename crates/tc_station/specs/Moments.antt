-- The answers of a station's calls. Each answer is the reply of a channel with the requested id at some moment. For an
-- operator's call, the definitions in `Call` also state that this is a moment of the very channel behind the lock.
use Rattle.std.specs.Prelude.{◌≡◌, ◌≢◌, [], ℕ, List, Contains, Some, slice_get}
use Rattle.tc_queues.specs.declared.settings.Settings.{Settings}
use Rattle.tc_channel.specs.declared.event.Event.{Event}
use Rattle.tc_channel.specs.declared.event.Event.TheVariants.{Frame}
use Rattle.tc_queues.specs.declared.reply.Delivery.{Delivery}
use Rattle.tc_queues.specs.declared.reply.FrameReply.{FrameReply}
use Rattle.tc_queues.specs.Settings.{IsAllowed}
use Rattle.tc_channel.specs.Journal.{History, with_event}
use Rattle.tc_channel.specs.Run.{IsLawful}
use Rattle.tc_channel.specs.Reply.{frame_reply, release_reply, take_reply, unit_reply, buffered_fields}
use Rattle.tc_status.specs.Board.{Watching}
use Rattle.tc_desk.specs.Log.{Identity}
use Rattle.tc_station.specs.Roster.{Roster, IsDeskOf}
use Rattle.tc_station.specs.Location.{IsLocated}

-- `P` holds for the journal of a channel with this id at some moment
abbrev pub AtSomeMomentOf : ℕ → (Settings → List Event → Type 0) → Type 0
AtSomeMomentOf vcid P = (s : Settings) × (journal : List Event) × IsAllowed s × IsLawful s journal × (s.vcid ≡ vcid) × P s journal

-- the octets begin with a frame for this channel, and this is the reply to the frame
abbrev pub IsBrought : Roster → List ℕ → ℕ → FrameReply → Type 0
IsBrought station octets vcid reply =
    (frame : List ℕ) × IsLocated station octets vcid frame × AtSomeMomentOf vcid (λ s journal. reply ≡ frame_reply s journal frame)

-- the octets begin with a frame for this channel, this is the reply to the frame, and a watcher has seen the journal
-- with the frame at its end
abbrev pub IsBroughtWatched : Roster → List ℕ → ℕ → FrameReply → History → Type 0
IsBroughtWatched station octets vcid reply seen =
    (frame : List ℕ) × IsLocated station octets vcid frame
    × AtSomeMomentOf vcid (λ s journal. (reply ≡ frame_reply s journal frame) × (seen ≡ with_event (record { settings = s; journal = journal }) (Frame frame)))

-- the station has a channel with this id, and a data field waited in it, whose release had this result
abbrev pub IsReleasedAtStation : Roster → ℕ → Delivery → Type 0
IsReleasedAtStation station vcid delivery =
    Contains station.vcids vcid × AtSomeMomentOf vcid (λ s journal. (buffered_fields s journal ≢ []) × (delivery ≡ release_reply s journal))

-- the station has a channel with this id, and at some moment of a channel with this id the packet was the oldest that
-- waited for this APID
abbrev pub IsTakenAtStation : Roster → ℕ → ℕ → List ℕ → Type 0
IsTakenAtStation station vcid apid packet =
    Contains station.vcids vcid × AtSomeMomentOf vcid (λ s journal. take_reply s journal apid ≡ Some packet)

-- the station has a channel with this id, and at some moment of a channel with this id the unit was the oldest that
-- waited on this MAP (the MAP Access Service of CCSDS 232.0-B)
abbrev pub IsUnitTakenAtStation : Roster → ℕ → ℕ → List ℕ → Type 0
IsUnitTakenAtStation station vcid map_id unit =
    Contains station.vcids vcid × AtSomeMomentOf vcid (λ s journal. unit_reply s journal map_id ≡ Some unit)

-- the station has a channel with this id, and the watcher has seen a moment of a channel with this id
abbrev pub IsWatched : Roster → ℕ → History → Type 0
IsWatched station vcid seen = Contains station.vcids vcid × (seen.settings.vcid ≡ vcid) × IsAllowed seen.settings × IsLawful seen.settings seen.journal

-- the watcher reads the board of the desk at this place, and has seen a moment of a channel with the desk's settings
abbrev pub IsWatcherAt : Roster → ℕ → Watching → Type 0
IsWatcherAt station place watcher = (head : Identity) × (slice_get station.heads place ≡ Some head) × (watcher.board ≡ head.board) × (watcher.seen.settings ≡ head.settings)

-- the watcher reads the board of the station's channel with this id, and has seen a moment of a channel with the same
-- settings
abbrev pub IsWatcherOf : Roster → ℕ → Watching → Type 0
IsWatcherOf station vcid watcher = (head : Identity) × IsDeskOf station vcid head × (watcher.board ≡ head.board) × (watcher.seen.settings ≡ head.settings)
