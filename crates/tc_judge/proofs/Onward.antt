-- The next frame on its way, which is lost or comes.
use Rattle.std.specs.Prelude.{◌≡◌, ◌⊎◌, Bool, List, [], ◌∷◌}
use Rattle.std.proofs.Common.{subst, refl, inl, inr, ap, ◌∙◌, arith}
use Rattle.tc_judge.specs.declared.account.Rules.{Rules}
use Rattle.tc_judge.specs.declared.account.SentFrame.{SentFrame}
use Rattle.tc_link.specs.declared.farm.Report.{Report}
use Rattle.tc_link.specs.declared.farm.State.{State}
use Rattle.tc_link.specs.declared.farm.State.TheVariants.{S1, S2, S3}
use Rattle.tc_link.specs.Farm.{E10, after}
use Rattle.tc_judge.specs.Account.{Explains, heard, lost, comes, released}
use Rattle.tc_judge.specs.declared.account.Item.{Item}
use Rattle.tc_judge.specs.declared.account.Item.TheVariants.{Heard}
use Rattle.tc_judge.specs.Layer.{Has, SomeOf, IsLayer, IsDealt, IsMadeOf, IsNext}

pub step-on : (rules : Rules) (q r : Report) (k : SentFrame) (ks : List SentFrame) (layer next : List Bool) (items : List Item)
    → IsLayer layer → IsNext rules k layer next → Has layer r → Explains rules (k ∷ ks) r (Heard q ∷ items)
    → (Has layer q × Explains rules (k ∷ ks) q items) ⊎ SomeOf (λ y. Explains rules ks y (Heard q ∷ items)) next
step-on rules q r k ks layer next items held goes has (heard e) = inl (has, e)
step-on rules q r k ks layer next items held goes has (lost l e) = inr (r, (goes r).1 (r, has, (r, inl (l, refl), inl refl)), e)
step-on rules q r k ks layer next items held goes has (comes {new = new} room step e) = inr (new, (goes new).1 (r, has, (new, inr (room, step), inl refl)), e)
step-on rules q r k ks layer next items held goes has (released e) =
    step-on rules q (after E10 r) k ks layer next items held goes (held r has) e

pub end-on : (rules : Rules) (q r : Report) (layer : List Bool) (items : List Item)
    → IsLayer layer → Has layer r → Explains rules [] r (Heard q ∷ items) → Has layer q × Explains rules [] q items
end-on rules q r layer items held has (heard e) = (has, e)
end-on rules q r layer items held has (released e) = end-on rules q (after E10 r) layer items held (held r has) e

dealt-back : (rules : Rules) (r new : Report) (k : SentFrame) (ks : List SentFrame) (items : List Item)
    → IsDealt rules k r new → Explains rules ks new items → Explains rules (k ∷ ks) r items
dealt-back rules r new k ks items (inl d) e = lost d.0 (subst (λ x. Explains rules ks x items) d.1 e)
dealt-back rules r new k ks items (inr d) e = comes d.0 d.1 e

held-back : (rules : Rules) (y new : Report) (ks : List SentFrame) (items : List Item)
    → (y ≡ new) ⊎ (y ≡ after E10 new) → Explains rules ks y items → Explains rules ks new items
held-back rules y new ks items (inl d) e = subst (λ x. Explains rules ks x items) d e
held-back rules y new ks items (inr d) e = released (subst (λ x. Explains rules ks x items) d e)

pub step-back : (rules : Rules) (k : SentFrame) (ks : List SentFrame) (layer next : List Bool) (items : List Item)
    → IsNext rules k layer next → SomeOf (λ y. Explains rules ks y items) next → SomeOf (λ r. Explains rules (k ∷ ks) r items) layer
step-back rules k ks layer next items goes some =
    let o = (goes some.0).0 some.1 in
    (o.0, o.1, dealt-back rules o.0 o.2.0 k ks items o.2.1 (held-back rules some.0 o.2.0 ks items o.2.2 some.2))

-- a release after a release changes nothing
pub free-twice : (r : Report) → after E10 (after E10 r) ≡ after E10 r
free-twice r = by r.state r refl where
  by : (s : State) (r : Report) → r.state ≡ s → after E10 (after E10 r) ≡ after E10 r
  by S1 r e = grind (arith, e)
  by S2 r e = grind (arith, e)
  by S3 r e = grind (arith, e)

-- if the layer after a frame has components, it also has those after a release
pub next-held : (rules : Rules) (k : SentFrame) (layer next : List Bool) → IsNext rules k layer next → IsLayer next
next-held rules k layer next goes y has = let m = (goes y).0 has in (goes (after E10 y)).1 (m.0, m.1, freed y m.0 m.2) where
  freed : (y r : Report) → IsMadeOf rules k r y → IsMadeOf rules k r (after E10 y)
  freed y r m = (m.0, m.1, by m.2) where
    by : (y ≡ m.0) ⊎ (y ≡ after E10 m.0) → (after E10 y ≡ m.0) ⊎ (after E10 y ≡ after E10 m.0)
    by (inl e) = inr (ap (λ x. after E10 x) e)
    by (inr e) = inr (ap (λ x. after E10 x) e ∙ free-twice m.0)
