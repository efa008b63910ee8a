-- After each step of a unit, a CLCW can still show its components.
use Rattle.std.specs.Prelude.{◌≡◌, ◌+◌, ◌%◌, ◌↔◌, Bool, true, false, Option, List, ◌∷◌, Some, None, unwrap_or}
use Rattle.std.proofs.Common.{refl, sym, ◌∙◌, subst, inl, inr, arith, ◌<◌}
use Rattle.tc_judge.specs.declared.account.Rules.{Rules}
use Rattle.tc_judge.specs.declared.account.SentFrame.{SentFrame}
use Rattle.tc_link.specs.declared.farm.Report.{Report}
use Rattle.tc_link.specs.declared.farm.State.{State}
use Rattle.tc_link.specs.declared.farm.State.TheVariants.{S1, S2, S3}
use Rattle.tc_link.specs.Farm.{Row, E1, E2, E3, E4, E5, E6, E7, E8, E9, E10, entry, entry_at, after, frame_row}
use Rattle.tc_judge.specs.Account.{Explains, heard, lost, comes, released}
use Rattle.tc_judge.specs.Alternatives.{Leads, other_at}
use Rattle.tc_judge.specs.Reading.{shown_state, IsShown}
use Rattle.tc_judge.specs.declared.account.SentFrame.TheVariants.{Known, OtherCommand}
use Rattle.tc_judge.specs.declared.account.Item.{Item}
use Rattle.tc_judge.specs.declared.account.Item.TheVariants.{Heard}

counted-at : (row : Row) (s : State) (r y : Report) → r.farm_b < 4 → entry_at row s r ≡ Some y → y.farm_b < 4
counted-at E1 S1 r y h e = let q : y.farm_b ≡ r.farm_b = cc in omega arith
counted-at E1 S2 r y h e = absurd cc
counted-at E1 S3 r y h e = let q : y.farm_b ≡ r.farm_b = cc in omega arith
counted-at E2 S1 r y h e = let q : y.farm_b ≡ r.farm_b = cc in omega arith
counted-at E2 S2 r y h e = let q : y.farm_b ≡ r.farm_b = cc in omega arith
counted-at E2 S3 r y h e = let q : y.farm_b ≡ r.farm_b = cc in omega arith
counted-at E3 S1 r y h e = let q : y.farm_b ≡ r.farm_b = cc in omega arith
counted-at E3 S2 r y h e = let q : y.farm_b ≡ r.farm_b = cc in omega arith
counted-at E3 S3 r y h e = let q : y.farm_b ≡ r.farm_b = cc in omega arith
counted-at E4 S1 r y h e = let q : y.farm_b ≡ r.farm_b = cc in omega arith
counted-at E4 S2 r y h e = let q : y.farm_b ≡ r.farm_b = cc in omega arith
counted-at E4 S3 r y h e = let q : y.farm_b ≡ r.farm_b = cc in omega arith
counted-at E5 S1 r y h e = let q : y.farm_b ≡ r.farm_b = cc in omega arith
counted-at E5 S2 r y h e = let q : y.farm_b ≡ r.farm_b = cc in omega arith
counted-at E5 S3 r y h e = let q : y.farm_b ≡ r.farm_b = cc in omega arith
counted-at E6 S1 r y h e = let q : y.farm_b ≡ (r.farm_b + 1) % 4 = cc in omega arith
counted-at E6 S2 r y h e = let q : y.farm_b ≡ (r.farm_b + 1) % 4 = cc in omega arith
counted-at E6 S3 r y h e = let q : y.farm_b ≡ (r.farm_b + 1) % 4 = cc in omega arith
counted-at E7 S1 r y h e = let q : y.farm_b ≡ (r.farm_b + 1) % 4 = cc in omega arith
counted-at E7 S2 r y h e = let q : y.farm_b ≡ (r.farm_b + 1) % 4 = cc in omega arith
counted-at E7 S3 r y h e = let q : y.farm_b ≡ (r.farm_b + 1) % 4 = cc in omega arith
counted-at (E8 x) S1 r y h e = let q : y.farm_b ≡ (r.farm_b + 1) % 4 = cc in omega arith
counted-at (E8 x) S2 r y h e = let q : y.farm_b ≡ (r.farm_b + 1) % 4 = cc in omega arith
counted-at (E8 x) S3 r y h e = let q : y.farm_b ≡ (r.farm_b + 1) % 4 = cc in omega arith
counted-at E9 S1 r y h e = let q : y.farm_b ≡ r.farm_b = cc in omega arith
counted-at E9 S2 r y h e = let q : y.farm_b ≡ r.farm_b = cc in omega arith
counted-at E9 S3 r y h e = let q : y.farm_b ≡ r.farm_b = cc in omega arith
counted-at E10 S1 r y h e = let q : y.farm_b ≡ r.farm_b = cc in omega arith
counted-at E10 S2 r y h e = let q : y.farm_b ≡ r.farm_b = cc in omega arith
counted-at E10 S3 r y h e = let q : y.farm_b ≡ r.farm_b = cc in omega arith

other-counted : (row : Row) (s : State) (r y : Report) → r.farm_b < 4 → other_at row s r ≡ Some y → y.farm_b < 4
other-counted E1 s r y h e = absurd cc
other-counted E2 s r y h e = absurd cc
other-counted E3 S1 r y h e = absurd cc
other-counted E3 S2 r y h e = let q : y.farm_b ≡ r.farm_b = cc in omega arith
other-counted E3 S3 r y h e = absurd cc
other-counted E4 s r y h e = absurd cc
other-counted E5 s r y h e = absurd cc
other-counted E6 s r y h e = absurd cc
other-counted E7 S1 r y h e = let q : y.farm_b ≡ (r.farm_b + 1) % 4 = cc in omega arith
other-counted E7 S2 r y h e = let q : y.farm_b ≡ (r.farm_b + 1) % 4 = cc in omega arith
other-counted E7 S3 r y h e = let q : y.farm_b ≡ (r.farm_b + 1) % 4 = cc in omega arith
other-counted (E8 x) S1 r y h e = absurd cc
other-counted (E8 x) S2 r y h e = absurd cc
other-counted (E8 x) S3 r y h e = let q : y.farm_b ≡ r.farm_b = cc in omega arith
other-counted E9 s r y h e = absurd cc
other-counted E10 s r y h e = absurd cc

leads-counter : (rules : Rules) (k : SentFrame) (room : Bool) (r y : Report) → r.farm_b < 4 → Leads rules k room r y → y.farm_b < 4
leads-counter rules (Known kind) room r y h (inl e) = counted-at (frame_row rules.window r.vr kind room) r.state r y h e
leads-counter rules OtherCommand room r y h (inl e) = counted-at E9 r.state r y h e
leads-counter rules (Known kind) room r y h (inr e) = other-counted (frame_row rules.window r.vr kind false) r.state r y h e.1
leads-counter rules OtherCommand room r y h (inr e) = let s : Some (record r { farm_b = (r.farm_b + 1) % 4 }) ≡ Some y = e.1 in let q : y.farm_b ≡ (r.farm_b + 1) % 4 = cc s in omega arith

pub lockout-shown : (s : State) (l w : Bool) → s ≡ shown_state l w → (s ≡ S3) ↔ (l ≡ true)
lockout-shown s true w e = ((λ h. refl), (λ h. e))
lockout-shown s false true e = ((λ h. absurd (cc (h, e))), (λ h. absurd cc))
lockout-shown s false false e = ((λ h. absurd (cc (h, e))), (λ h. absurd cc))

pub wait-shown : (s : State) (l w : Bool) → s ≡ shown_state l w → (s ≡ S2) ↔ ((l ≡ false) × (w ≡ true))
wait-shown s true w e = ((λ h. absurd (cc (h, e))), (λ h. absurd (cc h.0)))
wait-shown s false true e = ((λ h. (refl, refl)), (λ h. e))
wait-shown s false false e = ((λ h. absurd (cc (h, e))), (λ h. absurd (cc h.1)))

so-of : (s : State) (l w : Bool) → s ≡ shown_state l w → (y : Report) → y.state ≡ s → y.lockout ≡ l → y.wait ≡ w → y.state ≡ shown_state y.lockout y.wait
so-of s l w e y ys yl yw = ys ∙ e ∙ sym (subst (λ x. shown_state y.lockout y.wait ≡ shown_state l x) yw (subst (λ x. shown_state y.lockout y.wait ≡ shown_state x y.wait) yl refl))

s3-wait : (w : Bool) → S3 ≡ shown_state true w
s3-wait w = refl

locked : (l w : Bool) → S3 ≡ shown_state l w → l ≡ true
locked true w e = refl
locked false true e = absurd cc
locked false false e = absurd cc

unlocked : (l w : Bool) → S1 ≡ shown_state l w → l ≡ false
unlocked true w e = absurd cc
unlocked false w e = refl

waits : (l w : Bool) → S2 ≡ shown_state l w → l ≡ false
waits true w e = absurd cc
waits false w e = refl

flags-at : (row : Row) (s : State) (r y : Report) → r.state ≡ s → r.state ≡ shown_state r.lockout r.wait → entry_at row s r ≡ Some y → y.state ≡ shown_state y.lockout y.wait
flags-at E1 S1 r y is f e = so-of r.state r.lockout r.wait f y (cc) (cc) (cc)
flags-at E1 S2 r y is f e = absurd cc
flags-at E1 S3 r y is f e = so-of r.state r.lockout r.wait f y (cc) (cc) (cc)
flags-at E2 S1 r y is f e = so-of S2 false true refl y (cc) (let l : r.lockout ≡ false = unlocked r.lockout r.wait (sym is ∙ f) in let q : y.lockout ≡ r.lockout = cc in q ∙ l) (cc)
flags-at E2 S2 r y is f e = so-of r.state r.lockout r.wait f y (cc) (cc) (cc)
flags-at E2 S3 r y is f e = so-of r.state r.lockout r.wait f y (cc) (cc) (cc)
flags-at E3 S1 r y is f e = so-of r.state r.lockout r.wait f y (cc) (cc) (cc)
flags-at E3 S2 r y is f e = so-of r.state r.lockout r.wait f y (cc) (cc) (cc)
flags-at E3 S3 r y is f e = so-of r.state r.lockout r.wait f y (cc) (cc) (cc)
flags-at E4 S1 r y is f e = so-of r.state r.lockout r.wait f y (cc) (cc) (cc)
flags-at E4 S2 r y is f e = so-of r.state r.lockout r.wait f y (cc) (cc) (cc)
flags-at E4 S3 r y is f e = so-of r.state r.lockout r.wait f y (cc) (cc) (cc)
flags-at E5 S1 r y is f e = let w : y.wait ≡ r.wait = cc in so-of S3 true r.wait refl y (cc) (cc) w
flags-at E5 S2 r y is f e = let w : y.wait ≡ r.wait = cc in so-of S3 true r.wait refl y (cc) (cc) w
flags-at E5 S3 r y is f e = so-of r.state r.lockout r.wait f y (cc) (cc) (cc)
flags-at E6 S1 r y is f e = so-of r.state r.lockout r.wait f y (cc) (cc) (cc)
flags-at E6 S2 r y is f e = so-of r.state r.lockout r.wait f y (cc) (cc) (cc)
flags-at E6 S3 r y is f e = so-of r.state r.lockout r.wait f y (cc) (cc) (cc)
flags-at E7 S1 r y is f e = so-of r.state r.lockout r.wait f y (cc) (cc) (cc)
flags-at E7 S2 r y is f e = so-of S1 false false refl y (cc) (let l : r.lockout ≡ false = waits r.lockout r.wait (sym is ∙ f) in let q : y.lockout ≡ r.lockout = cc in q ∙ l) (cc)
flags-at E7 S3 r y is f e = so-of S1 false false refl y (cc) (cc) (cc)
flags-at (E8 x) S1 r y is f e = so-of r.state r.lockout r.wait f y (cc) (cc) (cc)
flags-at (E8 x) S2 r y is f e = so-of S1 false false refl y (cc) (let l : r.lockout ≡ false = waits r.lockout r.wait (sym is ∙ f) in let q : y.lockout ≡ r.lockout = cc in q ∙ l) (cc)
flags-at (E8 x) S3 r y is f e = so-of r.state r.lockout r.wait f y (cc) (cc) (cc)
flags-at E9 S1 r y is f e = so-of r.state r.lockout r.wait f y (cc) (cc) (cc)
flags-at E9 S2 r y is f e = so-of r.state r.lockout r.wait f y (cc) (cc) (cc)
flags-at E9 S3 r y is f e = so-of r.state r.lockout r.wait f y (cc) (cc) (cc)
flags-at E10 S1 r y is f e = so-of r.state r.lockout r.wait f y (cc) (cc) (cc)
flags-at E10 S2 r y is f e = so-of S1 false false refl y (cc) (let l : r.lockout ≡ false = waits r.lockout r.wait (sym is ∙ f) in let q : y.lockout ≡ r.lockout = cc in q ∙ l) (cc)
flags-at E10 S3 r y is f e = so-of S3 true false refl y (let q : y.state ≡ r.state = cc in q ∙ is) (let l : r.lockout ≡ true = locked r.lockout r.wait (sym is ∙ f) in let q : y.lockout ≡ r.lockout = cc in q ∙ l) (cc)

other-flags : (row : Row) (s : State) (r y : Report) → r.state ≡ s → r.state ≡ shown_state r.lockout r.wait → other_at row s r ≡ Some y → y.state ≡ shown_state y.lockout y.wait
other-flags E1 s r y is f e = absurd cc
other-flags E2 s r y is f e = absurd cc
other-flags E3 S1 r y is f e = absurd cc
other-flags E3 S2 r y is f e = so-of r.state r.lockout r.wait f y (cc) (cc) (cc)
other-flags E3 S3 r y is f e = absurd cc
other-flags E4 s r y is f e = absurd cc
other-flags E5 s r y is f e = absurd cc
other-flags E6 s r y is f e = absurd cc
other-flags E7 S1 r y is f e = so-of r.state r.lockout r.wait f y (cc) (cc) (cc)
other-flags E7 S2 r y is f e = so-of S1 false false refl y (cc) (let l : r.lockout ≡ false = waits r.lockout r.wait (sym is ∙ f) in let q : y.lockout ≡ r.lockout = cc in q ∙ l) (cc)
other-flags E7 S3 r y is f e = so-of S1 false false refl y (cc) (cc) (cc)
other-flags (E8 x) S1 r y is f e = absurd cc
other-flags (E8 x) S2 r y is f e = absurd cc
other-flags (E8 x) S3 r y is f e = so-of r.state r.lockout r.wait f y (cc) (cc) (cc)
other-flags E9 s r y is f e = absurd cc
other-flags E10 s r y is f e = absurd cc

leads-flags : (rules : Rules) (k : SentFrame) (room : Bool) (r y : Report) → r.state ≡ shown_state r.lockout r.wait → Leads rules k room r y → y.state ≡ shown_state y.lockout y.wait
leads-flags rules (Known kind) room r y f (inl e) = flags-at (frame_row rules.window r.vr kind room) r.state r y refl f e
leads-flags rules OtherCommand room r y f (inl e) = flags-at E9 r.state r y refl f e
leads-flags rules (Known kind) room r y f (inr e) = other-flags (frame_row rules.window r.vr kind false) r.state r y refl f e.1
leads-flags rules OtherCommand room r y f (inr e) = let s : Some (record r { farm_b = (r.farm_b + 1) % 4 }) ≡ Some y = e.1 in so-of r.state r.lockout r.wait f y (cc s) (cc s) (cc s)

pub shown-leads : (rules : Rules) (k : SentFrame) (room : Bool) (r y : Report) → IsShown r → Leads rules k room r y → IsShown y
shown-leads rules k room r y f step = record { counter = leads-counter rules k room r y f.counter step; state = leads-flags rules k room r y f.state step }

pub shown-after : (row : Row) (r : Report) → IsShown r → IsShown (after row r)
shown-after row r f = by (entry row r) refl where
  by : (o : Option Report) → entry row r ≡ o → IsShown (after row r)
  by None e = subst (λ o. IsShown (unwrap_or o r)) (sym e) f
  by (Some y) e = subst (λ o. IsShown (unwrap_or o r)) (sym e)
      (record { counter = counted-at row r.state r y f.counter e; state = flags-at row r.state r y refl f.state e })

pub shown-on : (rules : Rules) (way : List SentFrame) (r q : Report) (items : List Item) → IsShown r → Explains rules way r (Heard q ∷ items) → IsShown q
shown-on rules way r q items f (heard e) = f
shown-on rules (k ∷ way) r q items f (lost l e) = shown-on rules way r q items f e
shown-on rules (k ∷ way) r q items f (comes {new = new} room step e) = shown-on rules way new q items (shown-leads rules k room r new f step) e
shown-on rules way r q items f (released e) = shown-on rules way (after E10 r) q items (shown-after E10 r f) e
