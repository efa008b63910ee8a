-- The components that are added to a layer.
use Rattle.std.specs.Prelude.{◌≡◌, ◌⊎◌, ◌↔◌, Bool, true, false, Option, Some, None}
use Rattle.std.proofs.Common.{sym, refl, inl, inr, ap, ◌∙◌}
use Rattle.tc_judge.specs.declared.account.Rules.{Rules}
use Rattle.tc_judge.specs.declared.account.SentFrame.{SentFrame}
use Rattle.tc_link.specs.declared.farm.Report.{Report}
use Rattle.tc_link.specs.Farm.{E10, after}
use Rattle.tc_judge.specs.Alternatives.{usual, other}
use Rattle.tc_judge.specs.Layer.{IsDealt, IsMadeOf}

pub two : {X Y Z P Q : Type 0} → (Z ↔ (Y ⊎ Q)) → (Y ↔ (X ⊎ P)) → Z ↔ (X ⊎ (P ⊎ Q))
two {X = X} {Y = Y} {Z = Z} {P = P} {Q = Q} f g = (λ z. there (f.0 z), back) where
  from : X ⊎ P → X ⊎ (P ⊎ Q)
  from (inl x) = inl x
  from (inr p) = inr (inl p)

  there : Y ⊎ Q → X ⊎ (P ⊎ Q)
  there (inl y) = from (g.0 y)
  there (inr q) = inr (inr q)

  back : X ⊎ (P ⊎ Q) → Z
  back (inl x) = f.1 (inl (g.1 (inl x)))
  back (inr (inl p)) = f.1 (inl (g.1 (inr p)))
  back (inr (inr q)) = f.1 (inr q)

pub alike : {X Z P Q : Type 0} → (Z ↔ (X ⊎ P)) → (P ↔ Q) → Z ↔ (X ⊎ Q)
alike {X = X} {Z = Z} {P = P} {Q = Q} f g = (λ z. there (f.0 z), back) where
  there : X ⊎ P → X ⊎ Q
  there (inl x) = inl x
  there (inr p) = inr (g.0 p)

  back : X ⊎ Q → Z
  back (inl x) = f.1 (inl x)
  back (inr q) = f.1 (inr (g.1 q))

-- `y` are the components `new`, or those after a release
abbrev pub Near : Report → Report → Type 0
Near y new = (y ≡ new) ⊎ (y ≡ after E10 new)

abbrev pub NearSome : Option Report → Report → Type 0
NearSome x y = (new : Report) × (x ≡ Some new) × Near y new

cases : (b : Bool) → (b ≡ true) ⊎ (b ≡ false)
cases true = inl refl
cases false = inr refl

-- the components that a frame can make of `r` are those that the function `deal` finds in four ways
pub made-parts : (rules : Rules) (k : SentFrame) (r y : Report) (stays f t o : Option Report)
    → ((rules.lossy ≡ true) × (stays ≡ Some r)) ⊎ ((rules.lossy ≡ false) × (stays ≡ None))
    → f ≡ usual rules.window k false r → t ≡ usual rules.window k true r
    → (rules.profile ≡ true → o ≡ None) → (rules.profile ≡ false → o ≡ other rules.window k r)
    → (((NearSome stays y ⊎ NearSome f y) ⊎ NearSome t y) ⊎ NearSome o y) ↔ IsMadeOf rules k r y
made-parts rules k r y stays f t o which ef et none eo = (there, λ m. back m.0 m.1 m.2) where
  there : ((NearSome stays y ⊎ NearSome f y) ⊎ NearSome t y) ⊎ NearSome o y → IsMadeOf rules k r y
  there (inl (inl (inl s))) = stayed which s where
    stayed : ((rules.lossy ≡ true) × (stays ≡ Some r)) ⊎ ((rules.lossy ≡ false) × (stays ≡ None)) → NearSome stays y → IsMadeOf rules k r y
    stayed (inl w) s = let q : s.0 ≡ r = cc (w.1, s.1) in (s.0, inl (w.0, q), s.2)
    stayed (inr w) s = absurd (cc (w.1, s.1))
  there (inl (inl (inr s))) = (s.0, inr (false, inl (sym ef ∙ s.1)), s.2)
  there (inl (inr s)) = (s.0, inr (true, inl (sym et ∙ s.1)), s.2)
  there (inr s) = by (cases rules.profile) where
    by : (rules.profile ≡ true) ⊎ (rules.profile ≡ false) → IsMadeOf rules k r y
    by (inl p) = let n : o ≡ None = none p in absurd (cc (n, s.1))
    by (inr p) = (s.0, inr (false, inr (p, sym (eo p) ∙ s.1)), s.2)

  back : (new : Report) → IsDealt rules k r new → Near y new → ((NearSome stays y ⊎ NearSome f y) ⊎ NearSome t y) ⊎ NearSome o y
  back new (inl d) n = kept which where
    kept : ((rules.lossy ≡ true) × (stays ≡ Some r)) ⊎ ((rules.lossy ≡ false) × (stays ≡ None)) → ((NearSome stays y ⊎ NearSome f y) ⊎ NearSome t y) ⊎ NearSome o y
    kept (inl w) = inl (inl (inl (new, w.1 ∙ ap (λ x. Some x) (sym d.1), n)))
    kept (inr w) = absurd (cc (w.0, d.0))
  back new (inr (false, inl e)) n = inl (inl (inr (new, ef ∙ e, n)))
  back new (inr (true, inl e)) n = inl (inr (new, et ∙ e, n))
  back new (inr (room, inr e)) n = inr (new, eo e.0 ∙ e.1, n)
