-- An account of a unit that receives, and the histories of the unit that explain it.
use Rattle.std.specs.Prelude.{◌≡◌, Bool, true, List, [], ◌∷◌, ◌++◌}
use Rattle.tc_link.specs.declared.farm.Report.{Report}
use Rattle.tc_link.specs.Farm.{E10, after}
use Rattle.tc_judge.specs.Alternatives.{Leads}
use Rattle.tc_judge.specs.declared.account.Rules.{Rules}
use Rattle.tc_judge.specs.declared.account.SentFrame.{SentFrame}
use Rattle.tc_judge.specs.declared.account.Item.{Item}
use Rattle.tc_judge.specs.declared.account.Item.TheVariants.{Sent, Heard}

-- A history of a unit that explains the items noted from now on. `way` are the frames on their way to the unit, the
-- oldest first, and `r` are its components. A CLCW may be heard late: the rule `heard` is about the moment at which the
-- unit made it. Frames that are noted before the CLCW is heard may come to the unit after that moment.
pub data Explains (rules : Rules) : List SentFrame → Report → List Item → Type 0 where
  -- the account ends, whatever is on its way
  ended : {way : List SentFrame} {r : Report} → Explains rules way r []
  -- a frame is sent
  sent : {way : List SentFrame} {r : Report} {frame : SentFrame} {items : List Item}
      → Explains rules (way ++ frame ∷ []) r items → Explains rules way r (Sent frame ∷ items)
  -- the unit makes the CLCW that is heard next
  heard : {way : List SentFrame} {r : Report} {items : List Item}
      → Explains rules way r items → Explains rules way r (Heard r ∷ items)
  -- the oldest frame on its way is lost
  lost : {way : List SentFrame} {r : Report} {frame : SentFrame} {items : List Item}
      → rules.lossy ≡ true → Explains rules way r items → Explains rules (frame ∷ way) r items
  -- the oldest frame on its way comes, and there is room for it or not
  comes : {way : List SentFrame} {r new : Report} {frame : SentFrame} {items : List Item} (room : Bool)
      → Leads rules frame room r new → Explains rules way new items → Explains rules (frame ∷ way) r items
  -- the unit releases a data field
  released : {way : List SentFrame} {r : Report} {items : List Item}
      → Explains rules way (after E10 r) items → Explains rules way r items
