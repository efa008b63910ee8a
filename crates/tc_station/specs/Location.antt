-- The location of octets: the channel of a station that the frame at their front names.
use Rattle.std.specs.Prelude.{◌≡◌, ◌≢◌, ℕ, List, Contains, position, ◌==◌, Some}
use Rattle.tc_link.specs.Frame.{BeginsWith, header_of, fault_of}
use Rattle.tc_station.specs.Roster.{Roster}
use Rattle.tc_link.specs.declared.location.LocateFault.{LocateFault}
use Rattle.tc_link.specs.declared.location.LocateFault.TheVariants.{Frame, OtherSpacecraft, UnknownChannel}
use Rattle.tc_station.specs.declared.faults.BringFault.{BringFault}
use Rattle.tc_station.specs.declared.faults.BringFault.TheVariants.{Locate, NoMemory}

-- the octets begin with this frame, which names the station's spacecraft
abbrev pub IsOurs : Roster → List ℕ → List ℕ → Type 0
IsOurs station octets frame = BeginsWith octets frame × ((header_of frame).scid ≡ station.scid)

-- the octets begin with this frame, which is for this channel of the station
abbrev pub IsLocated : Roster → List ℕ → ℕ → List ℕ → Type 0
IsLocated station octets vcid frame = IsOurs station octets frame × ((header_of frame).vcid ≡ vcid) × Contains station.vcids vcid

-- the octets begin with this frame, which is for this channel of the station, and the channel has this place
abbrev pub IsPlaced : Roster → List ℕ → ℕ → ℕ → List ℕ → Type 0
IsPlaced station octets place vcid frame = IsLocated station octets vcid frame × (position (λ v. v == vcid) station.vcids ≡ Some place)

-- this is the reason why octets are for no channel of the station: the first of the faults below that applies
abbrev pub IsLocateFault : Roster → List ℕ → LocateFault → Type 0
IsLocateFault station octets (Frame f) = fault_of octets ≡ Some f
IsLocateFault station octets OtherSpacecraft = (frame : List ℕ) × BeginsWith octets frame × ((header_of frame).scid ≢ station.scid)
IsLocateFault station octets UnknownChannel = (frame : List ℕ) × IsOurs station octets frame × ¬ Contains station.vcids (header_of frame).vcid

-- This is the reason why octets weren't brought. Memory can run out only if the octets are for a channel of the
-- station.
abbrev pub IsBringFault : Roster → List ℕ → BringFault → Type 0
IsBringFault station octets (Locate f) = IsLocateFault station octets f
IsBringFault station octets NoMemory = (vcid : ℕ) × (frame : List ℕ) × IsLocated station octets vcid frame
