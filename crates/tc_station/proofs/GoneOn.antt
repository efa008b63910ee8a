-- An operator goes on at each of its desks, in each call and in several calls together.
use Rattle.tc_station.proofs.Names.{◌≡◌, ◌≢◌, ℕ, zero, suc, List, ◌∷◌, [], Result, Ok, Err, Some, refl, sym, ap, subst, ◌∙◌, eqb_tells, append-nil, inl, inr, slice_get, slice_set, same_Some, Event, Moment, AtLock, Own, IsCall, AtStation, HasGoneOn, HasGoneOnAtEach, IsBeginning}
use Rattle.logged_lock.specs.Log.{with_entry}
use Rattle.logged_lock.proofs.Steps.{beginning-trans}
use Rattle.tc_station.proofs.ClosedSince.{set-there}

-- the moment that the operator has seen at a desk after a call there continues the moment that it had seen before
pub longer : {R F : Type 0} (e : Event) (ok : Moment → R → Type 0) (err : Moment → F → Type 0) (there next : AtLock) (r : Result R F) → IsCall e ok err there r next → IsBeginning there.own.seen next.own.seen
longer e ok err there next (Ok a) c =
    subst (λ (o : Own). IsBeginning there.own.seen o.seen) (sym c.answer.1) (beginning-trans there.own.seen c.now (with_entry c.now e) c.later (refl, (e ∷ [], refl)))
longer e ok err there next (Err f) c = subst (λ (o : Own). IsBeginning there.own.seen o.seen) (sym c.answer.1) c.later

stays : (place : ℕ) (o p : AtStation) (d : AtLock) → slice_get o.desks place ≡ Some d → slice_get p.desks place ≡ Some d → HasGoneOn place o p
stays place o p d was is = record { before = d; after = d; was = was; is = is; longer = (refl, ([], append-nil d.own.seen.entries)) }

set-elsewhere : {X : Type 0} (xs : List X) (k j : ℕ) (y : X) → j ≢ k → slice_get (slice_set xs k y) j ≡ slice_get xs j
set-elsewhere (z ∷ xs) zero zero y apart = absurd (apart refl)
set-elsewhere (z ∷ xs) (suc k) (suc j) y apart = set-elsewhere xs k j y (λ e. apart (ap suc e))
set-elsewhere _ _ _ y apart = refl

-- if what an operator has seen at one desk continues what it had seen there, and its other desks are unchanged,
-- `HasGoneOnAtEach` holds
pub on-by-one : (place : ℕ) (o p : AtStation) (there next : AtLock) → slice_get o.desks place ≡ Some there → p.desks ≡ slice_set o.desks place next → IsBeginning there.own.seen next.own.seen → HasGoneOnAtEach o p
on-by-one place o p there next was others longer = record {
  each = λ other d at. elim (eqb_tells other place) [
    | inl same ↦ record {
      before = there;
      after = next;
      was = ap (slice_get o.desks) same.1 ∙ was;
      is = ap (slice_get p.desks) same.1 ∙ (ap (λ (l : List AtLock). slice_get l place) others ∙ set-there o.desks place there next was);
      longer = longer;
    }
    | inr apart ↦ stays other o p d at (ap (λ (l : List AtLock). slice_get l other) others ∙ (set-elsewhere o.desks place other next apart.1 ∙ at))
  ];
}

pub on_by_nothing : (o : AtStation) → HasGoneOnAtEach o o
on_by_nothing o = record { each = λ place d at. stays place o o d at at }

pub on_by_both : (a b c : AtStation) → HasGoneOnAtEach a b → HasGoneOnAtEach b c → HasGoneOnAtEach a c
on_by_both a b c one two = record {
  each = λ place d at.
      let f = one.each place d at in
      let s = two.each place f.after f.is in
      let same : s.before ≡ f.after = same_Some s.before f.after (sym s.was ∙ f.is) in
      record { before = f.before; after = s.after; was = f.was; is = s.is; longer = beginning-trans f.before.own.seen f.after.own.seen s.after.own.seen f.longer (subst (λ (x : AtLock). IsBeginning x.own.seen s.after.own.seen) same s.longer) };
}
