-- The balance between the journals of channels and the operators' counts.
use Rattle.std.specs.Prelude.{◌≡◌, ℕ, List, length, slice_index, slice_get, Some}
use Rattle.std.specs.List.{sum_by}
use Rattle.tc_channel.specs.Journal.{History, IsNumberReported}
use Rattle.tc_station.specs.Tally.{AtStation}

-- the number of operations that all operators together have counted for the channel at a place
abbrev pub counted_by_all : ℕ → List AtStation → ℕ
counted_by_all place operators = sum_by (λ (o : AtStation). slice_index o.counts place) operators

-- the channel has the id of its place, and as many events as were counted for it
abbrev pub IsInBalance : List ℕ → List AtStation → ℕ → History → Type 0
IsInBalance vcids operators place channel =
    (channel.settings.vcid ≡ slice_index vcids place) × (length channel.journal ≡ counted_by_all place operators)

abbrev pub AreInBalance : List ℕ → List AtStation → List History → Type 0
AreInBalance vcids operators channels =
    (place : ℕ) (channel : History) → slice_get channels place ≡ Some channel → IsInBalance vcids operators place channel

-- all channels are in balance, and each of them reports the exact number of its events
abbrev pub AreInReportedBalance : List ℕ → List AtStation → List History → Type 0
AreInReportedBalance vcids operators channels =
    (place : ℕ) (channel : History) → slice_get channels place ≡ Some channel → IsInBalance vcids operators place channel × IsNumberReported channel
