-- A judge's knowledge after a frame was sent, and at the end of an account.
use Rattle.std.specs.Prelude.{◌≡◌, ℕ, zero, suc, ◌<◌, ◌≤◌, ◌⊎◌, ◌↔◌, Bool, true, false, IsTrue, List, [], ◌∷◌, ◌++◌, drop, length, slice_index_or}
use Rattle.std.proofs.Common.{subst, sym, refl, inl, inr, ap, ◌∙◌, arith, ◌+◌}
use Rattle.std.proofs.Math.Seq.{get_or-append_seam}
use Rattle.std.proofs.lemmas.Bool.{cases_lt}
use Rattle.std.proofs.lemmas.List.{get_or_append_left, length_push, drop-append-le}
use Rattle.tc_judge.specs.declared.account.Rules.{Rules}
use Rattle.tc_judge.specs.declared.account.SentFrame.{SentFrame}
use Rattle.tc_link.specs.declared.farm.Report.{Report}
use Rattle.tc_judge.specs.Account.{Explains, ended, sent}
use Rattle.tc_judge.specs.declared.account.Item.{Item}
use Rattle.tc_judge.specs.declared.account.Item.TheVariants.{Sent, Heard}
use Rattle.tc_judge.specs.Layer.{Has, SomeAt}
use Rattle.tc_judge.specs.Judge.{Allows, Knowledge}
use Rattle.tc_judge.proofs.Silent.{sent-later}

pub after-sent : (rules : Rules) (r : Report) (k : SentFrame) (way : List SentFrame) (at : List Bool) (items : List Item) → length at ≡ length way + 1
    → SomeAt (λ s. Explains rules s r items) (at ++ false ∷ []) (way ++ k ∷ []) ↔ SomeAt (λ s. Explains rules s r (Sent k ∷ items)) at way
after-sent rules r k way at items n = (there, back) where
  there : SomeAt (λ s. Explains rules s r items) (at ++ false ∷ []) (way ++ k ∷ []) → SomeAt (λ s. Explains rules s r (Sent k ∷ items)) at way
  there s = by (cases_lt s.0 (length at)) where
    by : (s.0 < length at) ⊎ (length at ≤ s.0) → SomeAt (λ s. Explains rules s r (Sent k ∷ items)) at way
    by (inl lt) =
        let le : s.0 ≤ length way = omega (arith, lt, n) in (
          s.0,
          lt,
          subst (λ b. IsTrue b) (get_or_append_left at (false ∷ []) false s.0 lt) s.2,
          sent (subst (λ ks. Explains rules ks r items) (drop-append-le s.0 way (k ∷ []) le) s.3),
        )
    by (inr ge) =
        let m : length (at ++ false ∷ []) ≡ length at + 1 = length_push at false in
        let e : s.0 ≡ length at = omega (arith, s.1, m, ge) in
        let no : false ≡ true = subst (λ b. IsTrue b) (get_or-append_seam at false [] false) (subst (λ i. IsTrue (slice_index_or (at ++ false ∷ []) i false)) e s.2) in
        absurd (cc no)

  back : SomeAt (λ s. Explains rules s r (Sent k ∷ items)) at way → SomeAt (λ s. Explains rules s r items) (at ++ false ∷ []) (way ++ k ∷ [])
  back s =
      let m : length (at ++ false ∷ []) ≡ length at + 1 = length_push at false in
      let le : s.0 ≤ length way = omega (arith, s.1, n) in (
        s.0,
        omega (arith, s.1, m),
        subst (λ b. IsTrue b) (sym (get_or_append_left at (false ∷ []) false s.0 s.1)) s.2,
        subst (λ ks. Explains rules ks r items) (sym (drop-append-le s.0 way (k ∷ []) le)) (sent-later rules (drop s.0 way) r k items s.3),
      )

pub hears : (rules : Rules) (n now s q : Report) (w way : List SentFrame) (a at out : List Bool) → n ≡ now → s ≡ q → w ≡ way → a ≡ at
    → ((items : List Item) → SomeAt (λ ks. Explains rules ks s items) out w ↔ SomeAt (λ ks. Explains rules ks n (Heard s ∷ items)) a w)
    → (items : List Item) → SomeAt (λ ks. Explains rules ks q items) out way ↔ SomeAt (λ ks. Explains rules ks now (Heard q ∷ items)) at way
hears rules n now s q w way a at out ne se we ae h items =
    subst (λ x. SomeAt (λ ks. Explains rules ks q items) out way ↔ SomeAt (λ ks. Explains rules ks x (Heard q ∷ items)) at way) ne
    (subst (λ x. SomeAt (λ ks. Explains rules ks x items) out way ↔ SomeAt (λ ks. Explains rules ks n (Heard x ∷ items)) at way) se
    (subst (λ ws. SomeAt (λ ks. Explains rules ks s items) out ws ↔ SomeAt (λ ks. Explains rules ks n (Heard s ∷ items)) at ws) we
    (subst (λ x. SomeAt (λ ks. Explains rules ks s items) out w ↔ SomeAt (λ ks. Explains rules ks n (Heard s ∷ items)) x w) ae (h items))))

pub gathers : (rules : Rules) (n now : Report) (w way : List SentFrame) (a at into set : List Bool) → n ≡ now → w ≡ way → a ≡ at → into ≡ set
    → ((q : Report) → Has into q ↔ SomeAt (λ ks. Explains rules ks n (Heard q ∷ [])) a w)
    → (q : Report) → Has set q ↔ SomeAt (λ ks. Explains rules ks now (Heard q ∷ [])) at way
gathers rules n now w way a at into set ne we ae se g q =
    subst (λ x. Has x q ↔ SomeAt (λ ks. Explains rules ks now (Heard q ∷ [])) at way) se
    (subst (λ x. Has into q ↔ SomeAt (λ ks. Explains rules ks x (Heard q ∷ [])) at way) ne
    (subst (λ x. Has into q ↔ SomeAt (λ ks. Explains rules ks n (Heard q ∷ [])) at x) we
    (subst (λ x. Has into q ↔ SomeAt (λ ks. Explains rules ks n (Heard q ∷ [])) x w) ae (g q))))

abbrev pub IsMarked : List Bool → Type 0
IsMarked at = (k : ℕ) × (k < length at) × IsTrue (slice_index_or at k false)

pub any-there : (rules : Rules) (q : Report) (way : List SentFrame) (a at : List Bool) → a ≡ at → IsMarked a → SomeAt (λ s. Explains rules s q []) at way
any-there rules q way a at e s = let t = subst (λ x. IsMarked x) e s in (t.0, t.1, t.2, ended)

pub none-there : (a at : List Bool) (b : Bool) → a ≡ at → (IsMarked a → IsTrue b) → b ≡ false → IsMarked at → ⊥
none-there a at b e f off s = let t : b ≡ true = f (subst (λ x. IsMarked x) (sym e) s) in absurd (cc (t, off))

pub next-item : {X : Type 0} (xs : List X) (i : ℕ) (d : X) → i < length xs → drop i xs ≡ slice_index_or xs i d ∷ drop (i + 1) xs
next-item {X = X} xs i d h = let e : suc i ≡ i + 1 = omega arith in at xs i h ∙ ap (λ n. slice_index_or xs i d ∷ drop n xs) e where
  at : (xs : List X) (i : ℕ) → i < length xs → drop i xs ≡ slice_index_or xs i d ∷ drop (suc i) xs
  at [] i h = absurd (omega (arith, h))
  at (x ∷ xs) zero h = refl
  at (x ∷ xs) (suc i) h = at xs i (omega (arith, h))

pub explained-sent : (rules : Rules) (r : Report) (k : SentFrame) (way : List SentFrame) (at : List Bool)
    → SomeAt (λ s. Explains rules s r []) at way → SomeAt (λ s. Explains rules s r (Sent k ∷ [])) at way
explained-sent rules r k way at s = (s.0, s.1, s.2, sent ended)

pub sent-on : (rules : Rules) (r : Report) (k : SentFrame) (way w : List SentFrame) (at a : List Bool) (items : List Item) → length at ≡ length way + 1
    → w ≡ way ++ k ∷ [] → a ≡ at ++ false ∷ []
    → SomeAt (λ s. Explains rules s r items) a w ↔ SomeAt (λ s. Explains rules s r (Sent k ∷ items)) at way
sent-on rules r k way w at a items n we ae =
    subst (λ ws. SomeAt (λ s. Explains rules s r items) a ws ↔ SomeAt (λ s. Explains rules s r (Sent k ∷ items)) at way) (sym we)
    (subst (λ ks. SomeAt (λ s. Explains rules s r items) ks (way ++ k ∷ []) ↔ SomeAt (λ s. Explains rules s r (Sent k ∷ items)) at way) (sym ae)
    (after-sent rules r k way at items n))

-- after a judge has noted item i of an account, it allows the items after item i if and only if, before that, it
-- allowed the items from item i on
pub on : {E : Type 0} (old new : Knowledge) (account : List Item) (i : ℕ) (d item : Item) → i < length account → slice_index_or account i d ≡ item
    → ((items : List Item) → Allows new items ↔ Allows old (item ∷ items)) → (Allows old (drop i account) ↔ E) → Allows new (drop (i + 1) account) ↔ E
on {E = E} old new account i d item h is step known = (λ a. known.0 (to (m.0 a)), λ e. m.1 (from (known.1 e))) where
  m : Allows new (drop (i + 1) account) ↔ Allows old (item ∷ drop (i + 1) account)
  m = step (drop (i + 1) account)

  whole : drop i account ≡ item ∷ drop (i + 1) account
  whole = next-item account i d h ∙ ap (λ x. x ∷ drop (i + 1) account) is

  to : Allows old (item ∷ drop (i + 1) account) → Allows old (drop i account)
  to a = subst (λ xs. Allows old xs) (sym whole) a

  from : Allows old (drop i account) → Allows old (item ∷ drop (i + 1) account)
  from a = subst (λ xs. Allows old xs) whole a

pub none-on : {E : Type 0} (old : Knowledge) (account : List Item) (i : ℕ) (d item : Item) → i < length account → slice_index_or account i d ≡ item
    → ((items : List Item) → Allows old (item ∷ items) → ⊥) → (Allows old (drop i account) ↔ E) → E → ⊥
none-on old account i d item h is step known e =
    step (drop (i + 1) account) (subst (λ xs. Allows old xs) (next-item account i d h ∙ ap (λ x. x ∷ drop (i + 1) account) is) (known.1 e))

drop-past : {X : Type 0} (xs : List X) (n : ℕ) → length xs ≤ n → drop n xs ≡ []
drop-past [] zero h = refl
drop-past [] (suc n) h = refl
drop-past (x ∷ xs) zero h = absurd (omega (arith, h))
drop-past (x ∷ xs) (suc n) h = drop-past xs n (omega (arith, h))

-- if all marks are set, any number of frames may be gone
pub from-any : (rules : Rules) (from : Report) (way : List SentFrame) (marks : List Bool) (items : List Item) → length marks ≡ length way + 1
    → ((k : ℕ) → k < length marks → slice_index_or marks k false ≡ true)
    → SomeAt (λ s. Explains rules s from items) marks way ↔ ((n : ℕ) × Explains rules (drop n way) from items)
from-any rules from way marks items e all = ((λ s. (s.0, s.3)), (λ s. back s.0 s.1)) where
  back : (n : ℕ) → Explains rules (drop n way) from items → SomeAt (λ s. Explains rules s from items) marks way
  back n x = by (cases_lt n (length marks)) where
    by : (n < length marks) ⊎ (length marks ≤ n) → SomeAt (λ s. Explains rules s from items) marks way
    by (inl lt) = (n, lt, all n lt, x)
    by (inr ge) =
        let lt : length way < length marks = omega (arith, e) in
        let past : length way ≤ n = omega (arith, ge, e) in
        let at : drop n way ≡ drop (length way) way = drop-past way n past ∙ sym (drop-past way (length way) (omega arith)) in
        (length way, lt, all (length way) lt, subst (λ ks. Explains rules ks from items) at x)
