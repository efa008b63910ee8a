-- Finding a channel of a configuration, and setting up one more.
use Rattle.tc_rack.proofs.Names.{◌≡◌, ◌≢◌, ℕ, ◌<◌, ◌≤◌, Bool, true, false, true≢false, eqb, Option, Some, None, List, [], ◌∷◌, ◌++◌, length, map, get_or, set, refl, sym, ap, ◌∙◌, subst, arith, eqb-true, eq-eqb, get_or-map, get_or-set_other, get_or-set_same, get_or_default, length-map, length-set, All-push, All-set, Any-from_list_any, all_pairs_push, list_any, AllPairs, is_some, MatchOption, Settings, IsAllowed, HasSettings, IsAt, IsConfiguration}
use Rattle.std.proofs.lemmas.Bool.Decides.{Decides-eqb}
use Rattle.std.proofs.lemmas.Map.Made.{IsDistinct-from_AllPairs}
use Rattle.std.proofs.lemmas.Map.Steps.{length-le_from_distinct_below}
use Rattle.std.proofs.lemmas.Option.{get_or_from_slice_get, slice_get_within}

-- since ids have 6 bits, and no two channels have the same id, there are at most 64 channels
pub few : (list : List Settings) → IsConfiguration list → length list ≤ 64
few [] c = omega arith
few (none ∷ rest) c =
    let of : Settings → ℕ = λ s. s.vcid in
    let list : List Settings = none ∷ rest in
    let apart : AllPairs (λ x y. x ≢ y) (map of list) =
    λ i j d ij jl. λ same.
    let jm : j < length list = omega (arith, length-map list of) in
    let im : i < length list = omega arith in
    c.distinct i j none ij jm (sym (get_or-map of list i none d im) ∙ (same ∙ get_or-map of list j none d jm))
    in
    let small : (q : ℕ) → list_any (eqb q) (map of list) ≡ true → q < 64 =
    λ q h.
    let w = Any-from_list_any (eqb q) (map of list) h in
    let kl : w.0 < length list = omega (arith, length-map list of, w.2) in
    let a : IsAllowed (get_or list w.0 none) = c.allowed w.0 none kl in
    let e : q ≡ (get_or list w.0 none).vcid = eqb-true q w.1 w.4 ∙ (sym w.3 ∙ get_or-map of list w.0 none w.1 kl) in
    let v : (get_or list w.0 none).vcid ≤ 63 = a.vcid in
    omega (arith, e, v)
    in
    rw (← length-map list of) (length-le_from_distinct_below (map of list) 64 (IsDistinct-from_AllPairs Decides-eqb (map of list) apart) small)

-- if a search for an id found a place, the settings at this place have the id
pub found : (list : List Settings) (vcid place : ℕ) (x : Settings) → (s : Settings) × IsAt list vcid place s → x ≡ get_or list place x → IsAt list vcid place x
found list vcid place x (s, (at, v)) is = subst (IsAt list vcid place) (sym (is ∙ get_or_from_slice_get list place s x at)) (at, v)

-- this is the result of a search for an id: either no channel has the id, or a channel has it at the place that was
-- found
abbrev pub IsSearched : List Settings → ℕ → Option ℕ → Type 0
IsSearched list vcid place = MatchOption place (¬ HasSettings list vcid) (λ place. (s : Settings) × IsAt list vcid place s)

pub there-already : (list : List Settings) (vcid : ℕ) (place : Option ℕ) → is_some place ≡ true → IsSearched list vcid place → HasSettings list vcid
there-already list vcid None e h = absurd cc
there-already list vcid (Some place) e (s, (at, v)) = (place, s, slice_get_within list place s at, get_or_from_slice_get list place s s at, v)

pub not-there : (list : List Settings) (vcid : ℕ) (place : Option ℕ) → is_some place ≡ false → IsSearched list vcid place → ¬ HasSettings list vcid
not-there list vcid None e h = h
not-there list vcid (Some place) e h = absurd cc

-- a configuration with one more channel, whose settings are allowed and whose id no other channel has, is still a configuration
pub one-more : (list : List Settings) (s : Settings) → IsConfiguration list → ¬ HasSettings list s.vcid → IsAllowed s → IsConfiguration (list ++ s ∷ [])
one-more list s c new allowed = record {
  distinct = all_pairs_push (λ (p q : Settings). p.vcid ≢ q.vcid) list s c.distinct
      (λ k d l. λ same. new (k, get_or list k d, l, get_or_default list k (get_or list k d) d l, same));
  allowed = All-push IsAllowed list s c.allowed allowed;
}

-- a place that was found is within the list
pub within : (list : List Settings) (vcid place : ℕ) → (s : Settings) × IsAt list vcid place s → place < length list
within list vcid place (s, (at, v)) = slice_get_within list place s at

-- if settings are replaced by allowed settings with the same id, a configuration is still a configuration
pub other-settings : (list : List Settings) (place : ℕ) (old new : Settings) → IsConfiguration list → place < length list → old ≡ get_or list place old → new.vcid ≡ old.vcid → IsAllowed new
    → IsConfiguration (set list place new)
other-settings list place old new c lt is same allowed = record {
  distinct = λ i j d before last. (
      let far : j < length list = omega (arith, last, length-set list place new) in
      λ e. c.distinct i j d before far (sym (id-at i d (omega (arith, before, far))) ∙ (e ∙ id-at j d far)));
  allowed = All-set IsAllowed list place new allowed c.allowed;
}
  where
    by : (k : ℕ) (d : Settings) → (b : Bool) → eqb k place ≡ b → (get_or (set list place new) k d).vcid ≡ (get_or list k d).vcid
    by k d true here =
        let e = eqb-true k place here in
        let there : (get_or (set list place new) place d).vcid ≡ (get_or list place d).vcid =
        ap (λ (s : Settings). s.vcid) (get_or-set_same list place new d lt) ∙ (same ∙ ap (λ (s : Settings). s.vcid) (is ∙ get_or_default list place old d lt)) in
        subst (λ (n : ℕ). (get_or (set list place new) n d).vcid ≡ (get_or list n d).vcid) (sym e) there
    by k d false other = ap (λ (s : Settings). s.vcid) (get_or-set_other list place k new d (λ e. true≢false (sym (eq-eqb k place e) ∙ other)))

    id-at : (k : ℕ) (d : Settings) → k < length list → (get_or (set list place new) k d).vcid ≡ (get_or list k d).vcid
    id-at k d within = by k d (eqb k place) refl
