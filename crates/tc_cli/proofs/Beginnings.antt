-- Lemmas about histories of which one is a beginning of another, and about lists of desks with the histories that their
-- watchers have seen.
use Rattle.std.proofs.Common.{◌≡◌, ℕ, List, [], ◌∷◌, ◌++◌, Some, length, inl, inr, refl, sym, ap, ◌∙◌, subst, arith, slice_get, slice_set}
use Rattle.tc_cli.proofs.Names.{AtLock, Event, HasMadeAll, History, IsEarlier, Own, Watching, eqb_tells, history_of, length-append, nil_from_length, same_Some}
use Rattle.std.proofs.lemmas.List.{append-nil}
use mathlib.Core.List.{IsPrefix}
use Rattle.tc_desk.specs.Alone.{with_places}
use Rattle.tc_cli.proofs.Lists.{set-at, set-else, set-elsewhere, set-there}

-- two lists are equal if each is a beginning of the other
prefix-same : (es fs : List Event) → IsPrefix es fs → IsPrefix fs es → es ≡ fs
prefix-same es fs p q =
    let none : p.0 ≡ [] =
    nil_from_length p.0
    (omega (arith, length-append es p.0, ap (length {A = Event}) p.1, length-append fs q.0, ap (length {A = Event}) q.1)) in
    sym (append-nil es) ∙ (ap (λ w. es ++ w) (sym none) ∙ p.1)

pub beginning-same : (a b : History) → IsEarlier a b → IsEarlier b a → a ≡ b
beginning-same a b p q =
    let journals = prefix-same a.journal b.journal p.1 q.1 in
    λ i. record { settings = q.0 i; journal = journals i }

-- `P` holds for each desk and the history that its watcher has seen
abbrev pub AreEach : (AtLock → History → Type 0) → List AtLock → List Watching → Type 0
AreEach P desks watchers = (k : ℕ) (d : AtLock) (w : Watching) → slice_get desks k ≡ Some d → slice_get watchers k ≡ Some w → P d w.seen

-- the watcher has seen exactly the events that the operator has seen
abbrev pub IsLevel : AtLock → History → Type 0
IsLevel d seen = seen ≡ history_of d.own.seen

same-each : (P : AtLock → History → Type 0) (there d : AtLock) (early w : Watching) → there ≡ d → early ≡ w → P there early.seen → P d w.seen
same-each P there d early w desk watcher one = subst (λ (x : AtLock × Watching). P x.0 x.1.seen) (λ i. (desk i, watcher i)) one

-- ---- lists in which one desk and its watcher are replaced

module _ (P : AtLock → History → Type 0) (desks more : List AtLock) (watchers read : List Watching) (place : ℕ) (there next : AtLock) (early late : Watching)
    (desk : more ≡ slice_set desks place next) (watched : read ≡ slice_set watchers place late) (was : slice_get desks place ≡ Some there) (seat : slice_get watchers place ≡ Some early) where
  pub each-set : AreEach P desks watchers → P next late.seen → AreEach P more read
  each-set all one k d w at here = elim (eqb_tells k place) [
    | inl h ↦ same-each P next d late w (set-at desks more place k there next d desk was h.1 at) (set-at watchers read place k early late w watched seat h.1 here) one
    | inr h ↦ all k d w (set-else desks more place k next d desk h.1 at) (set-else watchers read place k late w watched h.1 here)
  ]

  -- if `P` holds for the new lists, and for the desk and the watcher that were replaced, it holds for the old lists
  pub each-back : AreEach P more read → P there early.seen → AreEach P desks watchers
  each-back all one k d w at here = elim (eqb_tells k place) [
    | inl h ↦ same-each P there d early w (same_Some there d (sym was ∙ (ap (slice_get desks) (sym h.1) ∙ at))) (same_Some early w (sym seat ∙ (ap (slice_get watchers) (sym h.1) ∙ here))) one
    | inr h ↦
        all k d w (ap (λ (l : List AtLock). slice_get l k) desk ∙ (set-elsewhere desks place k next h.1 ∙ at))
        (ap (λ (l : List Watching). slice_get l k) watched ∙ (set-elsewhere watchers place k late h.1 ∙ here))
  ]

  -- if `P` holds for the new lists, it holds for the new desk and the new watcher
  pub each-there : AreEach P more read → P next late.seen
  each-there all =
      all place next late (ap (λ (l : List AtLock). slice_get l place) desk ∙ set-there desks place there next was) (ap (λ (l : List Watching). slice_get l place) watched ∙ set-there watchers place early late seat)

-- if an operator has made all events that it has seen, and has made none, it has seen none
pub no-event : (own : Own) → HasMadeAll own → own.made ≡ [] → own.seen.entries ≡ []
no-event own all none = none-placed own.seen.entries (sym all ∙ none) where
  none-placed : (es : List Event) → with_places 0 es ≡ [] → es ≡ []
  none-placed [] is = refl
  none-placed (e ∷ es) is = let l = ap (length {A = ℕ × Event}) is in absurd (omega arith)
