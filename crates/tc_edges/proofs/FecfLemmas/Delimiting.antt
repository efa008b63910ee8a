-- There is only one way to divide octets into frames, which is by the lengths that the frames name.
use Rattle.std.proofs.Common.{◌≡◌, ◌⊎◌, ℕ, zero, suc, ◌≤◌, List, [], ◌∷◌, ◌++◌, length, None, IsSome, inl, inr, refl, ap, sym, ◌∙◌, arith}
use Rattle.std.proofs.Math.Seq.{take-append_seam, drop-append_seam}
use Rattle.std.specs.Prelude.{take, drop}
use Rattle.std.specs.List.{concat, AllByRecursion}
use Rattle.std.proofs.lemmas.List.{append_assoc, length-append}
use Rattle.std.proofs.lemmas.Bool.Decides.{nat_tests}
use Rattle.tc_link.specs.Frame.{IsWhole, named_length, fault_of}
use Rattle.tc_edges.specs.Fecf.Candidate.{AreDelimited}

-- octets that begin with a whole frame name the length of that frame
named-front : (frame rest : List ℕ) → IsWhole frame → named_length (frame ++ rest) ≡ length frame
named-front (a ∷ b ∷ c ∷ d ∷ e ∷ more) rest w = w.named
named-front _ rest w = let l = w.least in absurd (omega arith)

no-fault : (frame rest : List ℕ) → IsWhole frame → fault_of (frame ++ rest) ≡ None
no-fault (a ∷ b ∷ c ∷ d ∷ e ∷ more) rest w =
    let least = w.least in let version = w.version in let spare = w.spare in let named = w.named in
    let longer : length more ≤ length (more ++ rest) = omega (arith, length-append more rest) in grind (arith, nat_tests)
no-fault _ rest w = let l = w.least in absurd (omega arith)

pub one-frame : (frame other rest behind : List ℕ) → IsWhole frame → IsWhole other → frame ++ rest ≡ other ++ behind → (frame ≡ other) × (rest ≡ behind)
one-frame frame other rest behind w v same =
    let lengths : length frame ≡ length other = sym (named-front frame rest w) ∙ ap named_length same ∙ named-front other behind v in (
      sym (take-append_seam frame rest) ∙ ap (λ (xs : List ℕ). take (length frame) xs) same ∙ ap (λ (n : ℕ). take n (other ++ behind)) lengths ∙ take-append_seam other behind,
      sym (drop-append_seam frame rest) ∙ ap (λ (xs : List ℕ). drop (length frame) xs) same ∙ ap (λ (n : ℕ). drop n (other ++ behind)) lengths ∙ drop-append_seam other behind,
    )

less : (n m : ℕ) (rest : List ℕ) → (suc n ≡ suc m) ⊎ IsSome (fault_of rest) → (n ≡ m) ⊎ IsSome (fault_of rest)
less n m rest (inl full) = inl (omega arith)
less n m rest (inr fault) = inr fault

-- octets that begin with a whole frame aren't a rest, unless the largest number of frames is reached
not-rest : (most : ℕ) (octets rest frame more : List ℕ) → octets ≡ [] ++ rest → octets ≡ frame ++ more → IsWhole frame → (0 ≡ most) ⊎ IsSome (fault_of rest) → suc 0 ≤ most → ⊥
not-rest most octets rest frame more is begins w (inl full) some = omega arith
not-rest most octets rest frame more is begins w (inr fault) some = let none : fault_of rest ≡ None = ap fault_of (sym is ∙ begins) ∙ no-fault frame more w in grind arith

same-frames : (most : ℕ) (octets rest behind : List ℕ) (frames others : List (List ℕ))
    → AllByRecursion IsWhole frames → octets ≡ concat frames ++ rest → length frames ≤ most → (length frames ≡ most) ⊎ IsSome (fault_of rest)
    → AllByRecursion IsWhole others → octets ≡ concat others ++ behind → length others ≤ most → (length others ≡ most) ⊎ IsSome (fault_of behind)
    → (frames ≡ others) × (rest ≡ behind)
same-frames most octets rest behind [] [] w is few ended v is' few' ended' = (refl, sym is ∙ is')
same-frames most octets rest behind [] (g ∷ gs) w is few ended v is' few' ended' = absurd (not-rest most octets rest g (concat gs ++ behind) is (is' ∙ append_assoc g (concat gs) behind) v.0 ended (omega arith))
same-frames most octets rest behind (f ∷ fs) [] w is few ended v is' few' ended' = absurd (not-rest most octets behind f (concat fs ++ rest) is' (is ∙ append_assoc f (concat fs) rest) w.0 ended' (omega arith))
same-frames zero octets rest behind (f ∷ fs) (g ∷ gs) w is few ended v is' few' ended' = absurd (omega arith)
same-frames (suc most) octets rest behind (f ∷ fs) (g ∷ gs) w is few ended v is' few' ended' =
    let first = one-frame f g (concat fs ++ rest) (concat gs ++ behind) w.0 v.0 (sym (append_assoc f (concat fs) rest) ∙ sym is ∙ is' ∙ append_assoc g (concat gs) behind) in
    let others = same-frames most (concat fs ++ rest) rest behind fs gs w.1 refl (omega arith) (less _ _ rest ended) v.1 first.1 (omega arith) (less _ _ behind ended') in
    (ap (λ (x : List ℕ). x ∷ fs) first.0 ∙ ap (λ (xs : List (List ℕ)). g ∷ xs) others.0, others.1)

pub only-frames : (most : ℕ) (octets rest behind : List ℕ) (frames others : List (List ℕ)) → AreDelimited most octets frames rest
    → AreDelimited most octets others behind → (frames ≡ others) × (rest ≡ behind)
only-frames most octets rest behind frames others one other =
    same-frames most octets rest behind frames others one.each one.parts one.few one.ended other.each other.parts other.few other.ended
