-- Lemmas about settings that are checked one after the other.
use Rattle.tc_station.proofs.Names.{◌≡◌, ◌≢◌, ℕ, ◌+◌, ◌<◌, List, length, take, get_or, sym, ap, ◌∙◌, inl, inr, arith, get_or-take, get_or_default, length-take, Settings, IsAllowed, Any, cases_eq}

-- the first i entries have distinct ids
abbrev pub DistinctBelow : List Settings → ℕ → Type 0
DistinctBelow list i = (j k : ℕ) (d : Settings) → j < k → k < i → (get_or list j d).vcid ≢ (get_or list k d).vcid

pub distinct-more : (list : List Settings) (i : ℕ) (s : Settings) → i < length list → s ≡ get_or list i s → (Any (λ (t : Settings). t.vcid ≡ s.vcid) (take i list) → ⊥) → DistinctBelow list i → DistinctBelow list (i + 1)
distinct-more list i s lt is none below j k e jk ki same = elim (cases_eq k i) [
  | inl last ↦ (
      let before : j < i = omega arith in
      let here : get_or list k e ≡ s = ap (λ n. get_or list n e) last ∙ (get_or_default list i e s lt ∙ sym is) in
      let at : get_or (take i list) j (get_or list j e) ≡ get_or list j e = get_or-take i list j (get_or list j e) before ∙ get_or_default list j (get_or list j e) e (omega arith) in
      none (j, get_or list j e, omega (arith, length-take i list), at, same ∙ ap (λ (t : Settings). t.vcid) here))
  | inr other ↦ below j k e jk (omega arith) same
]

-- a channel can be created from each of the first i entries
abbrev pub AllowedBelow : List Settings → ℕ → Type 0
AllowedBelow list i = (k : ℕ) (d : Settings) → k < i → IsAllowed (get_or list k d)
