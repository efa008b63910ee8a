-- Whole frames that a CLTU carries, followed by its fill.
use Rattle.std.proofs.Common.{◌≡◌, ℕ, zero, suc, ◌<◌, ◌≤◌, true, List, [], ◌∷◌, ◌++◌, None, length, length-append, take, refl, ap, ◌∙◌, inr, arith}
use Rattle.std.specs.Prelude.{IsSome}
use Rattle.std.specs.List.{concat, AllByRecursion}
use Rattle.tc_link.specs.Frame.{IsOctets, IsWhole, fault_of}
use Rattle.tc_link.proofs.Frames.{octets-append}
use Rattle.tc_edges.specs.Fecf.Candidate.{AreDelimited, is_fill}
use Rattle.tc_edges.proofs.CltuLemmas.Names.{Mode, nat_tests}
use Rattle.tc_edges.proofs.CltuLemmas.Decoding.{cltu-given, filled-front, filled-fits}
use Rattle.tc_edges.specs.Cltu.Cltu.{cltu, fill, cltu_fault_of}
use Rattle.tc_edges.specs.Cltu.Reception.{Searching, frames_of}

octets-none : IsOctets []
octets-none zero = omega arith
octets-none (suc i) = omega arith

octets-of : (frames : List (List ℕ)) → AllByRecursion IsWhole frames → IsOctets (concat frames)
octets-of [] w = octets-none
octets-of (f ∷ fs) w = octets-append f (concat fs) w.0.each (octets-of fs w.1)

some-octet : (frames : List (List ℕ)) → AllByRecursion IsWhole frames → 1 ≤ length frames → 0 < length (concat frames)
some-octet [] w some = absurd (omega arith)
some-octet (f ∷ fs) w some = let l = w.0.least in omega (arith, length-append f (concat fs))

no-cltu-fault : (octets : List ℕ) → 0 < length octets → length octets ≤ 1029 → cltu_fault_of octets ≡ None
no-cltu-fault octets some fits = grind (arith, nat_tests)

is-fill : (k : ℕ) → k < 7 → is_fill (take k fill) ≡ true
is-fill zero less = refl
is-fill (suc zero) less = refl
is-fill (suc (suc zero)) less = refl
is-fill (suc (suc (suc zero))) less = refl
is-fill (suc (suc (suc (suc zero)))) less = refl
is-fill (suc (suc (suc (suc (suc zero))))) less = refl
is-fill (suc (suc (suc (suc (suc (suc zero)))))) less = refl
is-fill (suc (suc (suc (suc (suc (suc (suc k))))))) less = absurd (omega arith)

no-frame : (k : ℕ) → k < 7 → IsSome (fault_of (take k fill))
no-frame zero less = refl
no-frame (suc zero) less = refl
no-frame (suc (suc zero)) less = refl
no-frame (suc (suc (suc zero))) less = refl
no-frame (suc (suc (suc (suc zero)))) less = refl
no-frame (suc (suc (suc (suc (suc zero))))) less = refl
no-frame (suc (suc (suc (suc (suc (suc zero)))))) less = refl
no-frame (suc (suc (suc (suc (suc (suc (suc k))))))) less = absurd (omega arith)

pub carried : (mode : Mode) (last most : ℕ) (frames : List (List ℕ)) (rest : List ℕ) → AllByRecursion IsWhole frames → 1 ≤ length frames → length frames ≤ most
    → length (concat frames) ≤ 1029 → (behind : List ℕ)
    × (frames_of mode 1029 (Searching last) (cltu (concat frames) ++ rest) ≡ (concat frames ++ behind) ∷ frames_of mode 1029 (Searching 0) rest)
    × (is_fill behind ≡ true) × AreDelimited most (concat frames ++ behind) frames behind
carried mode last most frames rest w some few fits =
    let octets = concat frames in
    let with_fill = filled-front octets in
    let behind = take with_fill.0 fill in (
      behind,
      cltu-given mode 1029 last octets rest (octets-of frames w) (some-octet frames w some) (filled-fits octets (no-cltu-fault octets (some-octet frames w some) fits))
          ∙ ap (λ (x : List ℕ). x ∷ frames_of mode 1029 (Searching 0) rest) with_fill.2,
      is-fill with_fill.0 with_fill.1,
      record { each = w; parts = refl; few = few; ended = inr (no-frame with_fill.0 with_fill.1) },
    )
