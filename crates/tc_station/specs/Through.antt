-- The calls of an operator, as they appear in the channels that the close of the station returned.
use Rattle.std.specs.Prelude.{◌≡◌, ◌≤◌, ℕ, List, [], ◌∷◌, ◌++◌, Ok, Some, length, slice_get, take}
use Rattle.tc_channel.specs.declared.event.Event.{Event}
use Rattle.tc_channel.specs.declared.event.Event.TheVariants.{Frame}
use Rattle.tc_queues.specs.declared.settings.Settings.{Settings}
use Rattle.tc_channel.specs.Journal.{History}
use Rattle.tc_channel.specs.Reply.{clcw, frame_reply}
use Rattle.tc_link.specs.declared.Link.{Link}
use Rattle.tc_status.specs.Board.{Watching}
use Rattle.tc_status.specs.Board as board
use Rattle.tc_desk.specs.Log.{AtLock, Moment}
use Rattle.tc_station.specs.Call.{IsMetCallAt}
use Rattle.tc_station.specs.Location.{IsLocated}
use Rattle.tc_station.specs.Roster.{Roster, IsPlace}
use Rattle.tc_station.specs.Tally.{AtStation, HasGoneOnAtEach, IsOurs}
use Rattle.tc_station.specs.Together.{AreClosedTogether}
use Rattle.tc_station.specs.declared.station.Brought.{Brought}

-- this event, with this number, is the last that the operator has made at the desk at this place
abbrev pub IsItsLast : ℕ → AtStation → ℕ → Event → Type 0
IsItsLast place operator n e = (desk : AtLock) × (slice_get operator.desks place ≡ Some desk) × ((earlier : List (ℕ × Event)) × (desk.own.made ≡ earlier ++ (n, e) ∷ []))

-- the event has a place in the channel's journal, its answer is the one that the earlier events give, and it is the
-- last event that the operator has made at the channel's desk
abbrev pub IsAnsweredIn : ℕ → AtStation → History → Event → (List Event → Type 0) → Type 0
IsAnsweredIn place operator channel e Answers = (n : ℕ) × (slice_get channel.journal n ≡ Some e) × Answers (take n channel.journal) × IsItsLast place operator n e

-- the channel with this id has this place, and is among the channels that were returned
abbrev pub IsGivenOut : Roster → ℕ → List History → ℕ → History → Type 0
IsGivenOut station vcid closed place channel = IsPlace station vcid place × (slice_get closed place ≡ Some channel)

-- The close returned the channel with this id. The event has a place in the channel's journal, its answer is the one
-- that the earlier events give, and it is the last event that the operator has made at the channel's desk.
abbrev pub IsAnsweredAmong : Roster → ℕ → AtStation → List History → Event → (Settings → List Event → Type 0) → Type 0
IsAnsweredAmong station vcid operator closed e Answers =
    (place : ℕ) × (channel : History) × IsGivenOut station vcid closed place channel × IsAnsweredIn place operator channel e (Answers channel.settings)

-- The octets begin with a frame for the channel that the answer names. The frame has a place in the journal of this
-- channel, and the answer's reply is the one that the earlier events give. The frame is the last event that the
-- operator has made at the channel's desk.
abbrev pub IsBroughtAmong : Roster → List ℕ → Brought → AtStation → List History → Type 0
IsBroughtAmong station octets brought operator closed =
    (frame : List ℕ) × IsLocated station octets brought.vcid frame × IsAnsweredAmong station brought.vcid operator closed (Frame frame) (λ s journal. brought.reply ≡ frame_reply s journal frame)

-- Suppose that an operator of the station made this call, that the call was answered, and that a watcher met the desk
-- before and after it. Suppose that the station was later closed together with its operators, perhaps after more calls
-- of the operator. Then the event has a place in the journal of its channel. The call's answer is the one that the
-- earlier events give, and the history that the watcher had seen before the call is a beginning of these events.
abbrev pub StandsIfMet : {R F : Type 0} → Event → (Moment → R → Type 0) → (Moment → F → Type 0) → (R → Settings → List Event → Type 0) → Type 0
StandsIfMet {R = R} {F = F} e ok err Answers =
    (station : Roster) (place vcid : ℕ) (early late : Watching) (before after last : AtStation) (answer : R) (operators : List AtStation) (closed : List History) (number : ℕ)
    → IsOurs station before → IsPlace station vcid place → IsMetCallAt {R = R} {F = F} place vcid e ok err early before (Ok answer) late after
    → HasGoneOnAtEach after last → slice_get operators number ≡ Some last → AreClosedTogether station operators closed
    → IsAnsweredAmong station vcid after closed e (λ s journal. Answers answer s journal × board.IsEarlier early.seen (record { settings = s; journal = journal }))

-- The history that the watcher has seen after the read continues the one that it had seen before. The word is the CLCW
-- of the later history, with these flags of the link.
abbrev pub IsWordRead : Link → Watching → ℕ → Watching → Type 0
IsWordRead link early word late = board.IsEarlier early.seen late.seen × (word ≡ clcw late.seen.settings late.seen.journal link)

-- the CLCW is the one at a place in the channel's journal, and the part of the journal that the watcher had seen
-- doesn't go beyond this place
abbrev pub IsShownIn : History → Watching → Link → ℕ → Type 0
IsShownIn channel early link word =
    (n : ℕ) × (length early.seen.journal ≤ n) × (n ≤ length channel.journal) × (word ≡ clcw channel.settings (take n channel.journal) link)
