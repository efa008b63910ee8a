-- If each channel has the id that the station lists at the channel's place, the list of the channels' ids is the
-- station's list.
use Rattle.tc_station.proofs.Names.{◌≡◌, ℕ, zero, suc, List, [], ◌∷◌, length, map, Some, refl, subst, arith, slice_get, slice_index, AtStation, History}

pub in-order : (vcids : List ℕ) (channels : List History) → length channels ≡ length vcids → ((place : ℕ) (h : History) → slice_get channels place ≡ Some h → h.settings.vcid ≡ slice_index vcids place)
    → map (λ (h : History). h.settings.vcid) channels ≡ vcids
in-order [] [] e named = refl
in-order (v ∷ vs) (h ∷ hs) e named =
    let here = named zero h refl in
    let rest = in-order vs hs (omega arith) (λ place g at. named (suc place) g at) in
    cc
in-order _ _ e named = absurd (omega arith)

pub moved : (P : List ℕ → List AtStation → List History → Type 0) (a b : List ℕ) (o p : List AtStation) (d e : List History) → a ≡ b → o ≡ p → d ≡ e → P a o d → P b p e
moved P a b o p d e s t u h = subst (λ (x : List ℕ × List AtStation × List History). P x.0 x.1 x.2) (λ i. (s i, t i, u i)) h
