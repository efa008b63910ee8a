-- A judge's knowledge of a unit.
use Rattle.std.specs.Prelude.{ℕ, Bool, List}
use Rattle.tc_link.specs.declared.farm.Report.{Report}
use Rattle.tc_judge.specs.Account.{Explains}
use Rattle.tc_judge.specs.Layer.{SomeAt}
use Rattle.tc_judge.specs.declared.account.Rules.{Rules}
use Rattle.tc_judge.specs.declared.account.SentFrame.{SentFrame}
use Rattle.tc_judge.specs.declared.account.Item.{Item}

-- The components `now` that the last CLCW showed, the frames that the unit may not have dealt with, and marks. If mark
-- k is set, the unit may have made that CLCW when it had dealt with the first k of these frames. There is room for
-- `most` frames. If more were on their way, there was an overrun, and nothing more is known of the unit.
pub record Knowledge : Type 0 where
  pub rules : Rules
  pub now : Report
  pub way : List SentFrame
  pub marks : List Bool
  pub most : ℕ
  pub overrun : Bool

-- from this knowledge on, a history explains the items that are noted next
abbrev pub Allows : Knowledge → List Item → Type 0
Allows k items = SomeAt (λ way. Explains k.rules way k.now items) k.marks k.way
