-- A layer: the components that a unit may have at one place among the frames on their way.
use Rattle.std.specs.Prelude.{◌≡◌, ℕ, ◌+◌, ◌*◌, ◌<◌, ◌⊎◌, ◌↔◌, Bool, true, false, IsTrue, Option, List, ◌∷◌, Some, None, drop, length, slice_index_or}
use Rattle.tc_link.specs.Bits.{bit}
use Rattle.tc_link.specs.declared.farm.Report.{Report}
use Rattle.tc_link.specs.Farm.{E10, after}
use Rattle.tc_judge.specs.Alternatives.{Leads}
use Rattle.tc_judge.specs.Account.{Explains}
use Rattle.tc_judge.specs.Reading.{IsShown}
use Rattle.tc_judge.specs.declared.account.Rules.{Rules}
use Rattle.tc_judge.specs.declared.account.SentFrame.{SentFrame}
use Rattle.tc_judge.specs.declared.account.Item.{Item}
use Rattle.tc_judge.specs.declared.account.Item.TheVariants.{Heard}

-- the place of the flag that a layer has for these components
abbrev pub place_in_layer : Report → ℕ
place_in_layer r = ((4 * bit r.lockout + 2 * bit r.wait + bit r.retransmit) * 4 + r.farm_b) * 256 + r.vr

-- a layer, or a set of components that a CLCW can show, has these components
pub record Has (layer : List Bool) (r : Report) : Type 0 where
  pub shown : IsShown r
  pub number : r.vr < 256
  pub flag : IsTrue (slice_index_or layer (place_in_layer r) false)

abbrev pub IsEmpty : List Bool → Type 0
IsEmpty layer = (r : Report) → Has layer r → ⊥

-- some components of a layer have a property
abbrev pub SomeOf : (Report → Type 0) → List Bool → Type 0
SomeOf Holds layer = (r : Report) × Has layer r × Holds r

-- if a layer has components, it also has those after a release
abbrev pub IsLayer : List Bool → Type 0
IsLayer layer = (r : Report) → Has layer r → Has layer (after E10 r)

-- the components `r` become `new` when a frame is lost or comes
abbrev pub IsDealt : Rules → SentFrame → Report → Report → Type 0
IsDealt rules frame r new = ((rules.lossy ≡ true) × (new ≡ r)) ⊎ ((room : Bool) × Leads rules frame room r new)

-- the components `r` become `y` by a frame, or by a frame and a release after it
abbrev pub IsMadeOf : Rules → SentFrame → Report → Report → Type 0
IsMadeOf rules frame r y = (new : Report) × IsDealt rules frame r new × ((y ≡ new) ⊎ (y ≡ after E10 new))

-- the layer after a frame
abbrev pub IsNext : Rules → SentFrame → List Bool → List Bool → Type 0
IsNext rules frame layer next = (y : Report) → Has next y ↔ ((r : Report) × Has layer r × IsMadeOf rules frame r y)

-- the layer after the next frame on its way, which is empty if there is none
abbrev pub Goes : Rules → Option SentFrame → List Bool → List Bool → Type 0
Goes rules None layer next = IsEmpty next
Goes rules (Some frame) layer next = IsNext rules frame layer next

-- One step along the frames on their way, of which `way` are those from here on. Two statements about the next CLCW are
-- equivalent. The first one is that the unit makes it here, from components of the layer `joined`, or later, from
-- components of the layer `next` after the next frame. The second one is that it follows from components of `layer`, or
-- from `now` if `here` is true.
abbrev pub IsTurn : Rules → Report → Report → Bool → List Bool → List Bool → List Bool → List SentFrame → List Item → Type 0
IsTurn rules now shown here layer joined next way items =
    ((Has joined shown × Explains rules way shown items) ⊎ SomeOf (λ y. Explains rules (drop 1 way) y (Heard shown ∷ items)) next)
    ↔ (SomeOf (λ r. Explains rules way r (Heard shown ∷ items)) layer ⊎ (IsTrue here × Explains rules way now (Heard shown ∷ items)))

-- for some mark that is set, the frames from its place on have a property
abbrev pub SomeAt : (List SentFrame → Type 0) → List Bool → List SentFrame → Type 0
SomeAt Holds marks way = (k : ℕ) × (k < length marks) × IsTrue (slice_index_or marks k false) × Holds (drop k way)
