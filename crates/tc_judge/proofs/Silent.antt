-- Lemmas about an account that is explained. A frame that is sent first can be on its way from the start, only a
-- release changes the CLCW while no frame is on its way, and the account stays explained under weaker rules.
use Rattle.std.specs.Prelude.{◌≡◌, ◌⊎◌, true, false, List, [], ◌∷◌, ◌++◌}
use Rattle.tc_judge.specs.declared.account.Rules.{Rules}
use Rattle.tc_judge.specs.declared.account.SentFrame.{SentFrame}
use Rattle.tc_link.specs.declared.farm.Report.{Report}
use Rattle.std.proofs.Common.{refl, inl, inr, ◌∙◌}
use Rattle.tc_link.specs.Farm.{E10, after}
use Rattle.tc_judge.proofs.Onward.{free-twice}
use Rattle.tc_judge.specs.Account.{Explains, ended, sent, heard, lost, comes, released}
use Rattle.tc_judge.specs.declared.account.Item.{Item}
use Rattle.tc_judge.specs.declared.account.Item.TheVariants.{Sent, Heard}

pub sent-later : (rules : Rules) (way : List SentFrame) (r : Report) (k : SentFrame) (items : List Item)
    → Explains rules way r (Sent k ∷ items) → Explains rules (way ++ k ∷ []) r items
sent-later rules way r k items (sent e) = e
sent-later rules (x ∷ way) r k items (lost l e) = lost l (sent-later rules way r k items e)
sent-later rules (x ∷ way) r k items (comes {new = new} room step e) = comes room step (sent-later rules way new k items e)
sent-later rules way r k items (released e) = released (sent-later rules way _ k items e)

pub nothing-comes : (rules : Rules) (r q : Report) (items : List Item) → Explains rules [] r (Heard q ∷ items) → (q ≡ r) ⊎ (q ≡ after E10 r)
nothing-comes rules r q items (heard e) = inl refl
nothing-comes rules r q items (released e) = by (nothing-comes rules (after E10 r) q items e) where
  by : (q ≡ after E10 r) ⊎ (q ≡ after E10 (after E10 r)) → (q ≡ r) ⊎ (q ≡ after E10 r)
  by (inl e) = inr e
  by (inr e) = inr (e ∙ free-twice r)

pub lossier : (rules : Rules) (way : List SentFrame) (r : Report) (items : List Item) → Explains rules way r items → Explains (record rules { lossy = true }) way r items
lossier rules way r items ended = ended
lossier rules way r (Sent k ∷ items) (sent e) = sent (lossier rules (way ++ k ∷ []) r items e)
lossier rules way r (Heard q ∷ items) (heard e) = heard (lossier rules way r items e)
lossier rules (k ∷ way) r items (lost l e) = lost refl (lossier rules way r items e)
lossier rules (k ∷ way) r items (comes {new = new} room step e) = comes room step (lossier rules way new items e)
lossier rules way r items (released e) = released (lossier rules way (after E10 r) items e)

pub freer : (rules : Rules) (way : List SentFrame) (r : Report) (items : List Item) → Explains rules way r items → Explains (record rules { profile = false }) way r items
freer rules way r items ended = ended
freer rules way r (Sent k ∷ items) (sent e) = sent (freer rules (way ++ k ∷ []) r items e)
freer rules way r (Heard q ∷ items) (heard e) = heard (freer rules way r items e)
freer rules (k ∷ way) r items (lost l e) = lost l (freer rules way r items e)
freer rules (k ∷ way) r items (comes {new = new} room (inl step) e) = comes room (inl step) (freer rules way new items e)
freer rules (k ∷ way) r items (comes {new = new} room (inr step) e) = comes room (inr (refl, step.1)) (freer rules way new items e)
freer rules way r items (released e) = released (freer rules way (after E10 r) items e)
