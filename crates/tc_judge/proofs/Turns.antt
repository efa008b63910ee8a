-- A turn of the judge, which goes one frame further along the frames on their way.
use Rattle.std.specs.Prelude.{◌≡◌, ◌⊎◌, ◌↔◌, Bool, IsTrue, Option, List, [], ◌∷◌, Some, None, drop, slice_get}
use Rattle.std.proofs.Common.{subst, sym, refl, inl, inr, ap, ◌∙◌}
use Rattle.tc_judge.specs.declared.account.Rules.{Rules}
use Rattle.tc_judge.specs.declared.account.SentFrame.{SentFrame}
use Rattle.tc_link.specs.declared.farm.Report.{Report}
use Rattle.tc_link.specs.Farm.{E10, after}
use Rattle.tc_judge.specs.Account.{Explains, heard, released}
use Rattle.tc_judge.specs.declared.account.Item.{Item}
use Rattle.tc_judge.specs.declared.account.Item.TheVariants.{Heard}
use Rattle.tc_judge.specs.Layer.{Has, IsEmpty, SomeOf, IsLayer, Goes, IsTurn}
use Rattle.tc_judge.proofs.Onward.{step-on, end-on, step-back, next-held, free-twice}

-- the layer with the components that the last CLCW showed, and those after a release, if `here` is true
abbrev pub IsJoined : Report → Bool → List Bool → List Bool → Type 0
IsJoined now here layer joined = (y : Report) → Has joined y ↔ (Has layer y ⊎ (IsTrue here × ((y ≡ now) ⊎ (y ≡ after E10 now))))

pub joined-held : (now : Report) (here : Bool) (layer joined : List Bool) → IsLayer layer → IsJoined now here layer joined → IsLayer joined
joined-held now here layer joined held j y has = (j (after E10 y)).1 (freed ((j y).0 has)) where
  freed : Has layer y ⊎ (IsTrue here × ((y ≡ now) ⊎ (y ≡ after E10 now))) → Has layer (after E10 y) ⊎ (IsTrue here × ((after E10 y ≡ now) ⊎ (after E10 y ≡ after E10 now)))
  freed (inl has) = inl (held y has)
  freed (inr (h, inl e)) = inr (h, inr (ap (λ x. after E10 x) e))
  freed (inr (h, inr e)) = inr (h, inr (ap (λ x. after E10 x) e ∙ free-twice now))

pub goes-held : (rules : Rules) (coming : Option SentFrame) (layer next : List Bool) → Goes rules coming layer next → IsLayer next
goes-held rules (Some k) layer next goes = next-held rules k layer next goes
goes-held rules None layer next goes = λ r has. absurd (goes r has)

none-of : (layer : List Bool) (Holds : Report → Type 0) → IsEmpty layer → SomeOf Holds layer → ⊥
none-of layer Holds e s = e s.0 s.1

middle : (rules : Rules) (q : Report) (joined next : List Bool) (way : List SentFrame) (items : List Item)
    → IsLayer joined → Goes rules (slice_get way 0) joined next
    → ((Has joined q × Explains rules way q items) ⊎ SomeOf (λ y. Explains rules (drop 1 way) y (Heard q ∷ items)) next)
    ↔ SomeOf (λ r. Explains rules way r (Heard q ∷ items)) joined
middle rules q joined next [] items held goes = (there, back) where
  there : (Has joined q × Explains rules [] q items) ⊎ SomeOf (λ y. Explains rules [] y (Heard q ∷ items)) next → SomeOf (λ r. Explains rules [] r (Heard q ∷ items)) joined
  there (inl s) = (q, s.0, heard s.1)
  there (inr s) = absurd (none-of next (λ y. Explains rules [] y (Heard q ∷ items)) goes s)

  back : SomeOf (λ r. Explains rules [] r (Heard q ∷ items)) joined → (Has joined q × Explains rules [] q items) ⊎ SomeOf (λ y. Explains rules [] y (Heard q ∷ items)) next
  back s = inl (end-on rules q s.0 joined items held s.1 s.2)
middle rules q joined next (k ∷ ks) items held goes = (there, back) where
  there : (Has joined q × Explains rules (k ∷ ks) q items) ⊎ SomeOf (λ y. Explains rules ks y (Heard q ∷ items)) next → SomeOf (λ r. Explains rules (k ∷ ks) r (Heard q ∷ items)) joined
  there (inl s) = (q, s.0, heard s.1)
  there (inr s) = step-back rules k ks joined next (Heard q ∷ items) goes s

  back : SomeOf (λ r. Explains rules (k ∷ ks) r (Heard q ∷ items)) joined → (Has joined q × Explains rules (k ∷ ks) q items) ⊎ SomeOf (λ y. Explains rules ks y (Heard q ∷ items)) next
  back s = step-on rules q s.0 k ks joined next items held goes s.1 s.2

pub turned : (rules : Rules) (now q : Report) (here : Bool) (coming : Option SentFrame) (layer joined next : List Bool)
    → IsLayer layer → IsJoined now here layer joined → Goes rules coming joined next
    → (way : List SentFrame) (items : List Item) → slice_get way 0 ≡ coming → IsTurn rules now q here layer joined next way items
turned rules now q here coming layer joined next held j goes way items e =
    (λ s. from (m.0 s), λ s. m.1 (to s)) where
      m : ((Has joined q × Explains rules way q items) ⊎ SomeOf (λ y. Explains rules (drop 1 way) y (Heard q ∷ items)) next)
          ↔ SomeOf (λ r. Explains rules way r (Heard q ∷ items)) joined
      m = middle rules q joined next way items (joined-held now here layer joined held j) (subst (λ c. Goes rules c joined next) (sym e) goes)

      apart : (r : Report) → Explains rules way r (Heard q ∷ items) → Has layer r ⊎ (IsTrue here × ((r ≡ now) ⊎ (r ≡ after E10 now)))
          → SomeOf (λ r. Explains rules way r (Heard q ∷ items)) layer ⊎ (IsTrue here × Explains rules way now (Heard q ∷ items))
      apart r x (inl has) = inl (r, has, x)
      apart r x (inr (h, inl e)) = inr (h, subst (λ z. Explains rules way z (Heard q ∷ items)) e x)
      apart r x (inr (h, inr e)) = inr (h, released (subst (λ z. Explains rules way z (Heard q ∷ items)) e x))

      from : SomeOf (λ r. Explains rules way r (Heard q ∷ items)) joined → SomeOf (λ r. Explains rules way r (Heard q ∷ items)) layer ⊎ (IsTrue here × Explains rules way now (Heard q ∷ items))
      from s = apart s.0 s.2 ((j s.0).0 s.1)

      to : SomeOf (λ r. Explains rules way r (Heard q ∷ items)) layer ⊎ (IsTrue here × Explains rules way now (Heard q ∷ items)) → SomeOf (λ r. Explains rules way r (Heard q ∷ items)) joined
      to (inl s) = (s.0, (j s.0).1 (inl s.1), s.2)
      to (inr s) = (now, (j now).1 (inr (s.0, inl refl)), s.1)
