-- The answer to a line, and its effect.
use Rattle.tc_make.proofs.Names.{Appends, List, Option, Reason, Writes, ap, bad_text, inl, inr, refl, subst, sym, ℕ, ◌≡◌, ◌⊎◌}
use Rattle.std.specs.Prelude.{Result, Ok, Err}
use Rattle.tc_make.specs.Answer.{OrNoMemory, IsExplained, IsSaid, IsKept, IsReadingSaid, IsAnswer}
use Rattle.tc_make.specs.declared.fault.Reason.TheVariants.{NoMemory}
use Rattle.tc_make.specs.LinkAnswer.{IsTelemetrySaid}
use Rattle.tc_make.specs.declared.line.Line.{Line}
use Rattle.tc_make.specs.declared.line.Line.TheVariants.{Explain, Telemetry}
use Rattle.tc_make.specs.declared.maker.Maker.{Maker}

pub line-done : (old new : Maker) (said : Result Line Reason) (line : Line) (a b : Option (List ℕ)) → said ≡ Ok line → IsKept old line new
    → Writes a b (IsSaid old line new) → Writes a b (IsAnswer old said new)
line-done old new said line a b e kept (text, is, w) = (text, inl (subst (λ (v : Result Line Reason). IsReadingSaid old v new text) (sym e) (is, kept)), w)

pub line-refused : (old : Maker) (said : Result Line Reason) (reason : Reason) (a b : Option (List ℕ)) → (reason ≡ NoMemory) ⊎ (said ≡ Err reason)
    → Appends a b (bad_text reason) → Writes a b (IsAnswer old said old)
line-refused old said reason a b (inl e) w = (bad_text reason, inr (ap bad_text e, refl), w)
line-refused old said reason a b (inr e) w =
    (bad_text reason, inl (subst (λ (v : Result Line Reason). IsReadingSaid old v old (bad_text reason)) (sym e) (refl, refl)), w)

pub telemetry-said : (old : Maker) (line : Line) (octets shown : List ℕ) (a b : Option (List ℕ)) → line ≡ Telemetry octets → shown ≡ octets
    → Writes a b (OrNoMemory (IsTelemetrySaid old.ending shown)) → Writes a b (IsSaid old line old)
telemetry-said old line octets shown a b e f w =
    subst (λ (v : Line). Writes a b (IsSaid old v old)) (sym e) (subst (λ (os : List ℕ). Writes a b (OrNoMemory (IsTelemetrySaid old.ending os))) f w)

pub explain-said : (old : Maker) (line : Line) (octets shown : List ℕ) (a b : Option (List ℕ)) → line ≡ Explain octets → shown ≡ octets
    → Writes a b (OrNoMemory (IsExplained old.ending shown)) → Writes a b (IsSaid old line old)
explain-said old line octets shown a b e f w =
    subst (λ (v : Line). Writes a b (IsSaid old v old)) (sym e) (subst (λ (os : List ℕ). Writes a b (OrNoMemory (IsExplained old.ending os))) f w)
