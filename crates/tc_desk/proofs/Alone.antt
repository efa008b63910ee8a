-- If only one operator has made events, it has made all events of the journal.
use Rattle.tc_desk.proofs.Names.{◌≡◌, ◌≢◌, ℕ, zero, suc, ◌+◌, ◌≤◌, List, [], ◌∷◌, ◌++◌, length, inl, inr, refl, sym, ap, ◌∙◌, arith, Event, IsBeginning, IsMergeOf, Moment, Own, made, length-append, nil_from_length, append-nil, same_from_push, owned, made_by, looked}
use Rattle.std.proofs.lemmas.Bool.Decides.{eqb_tells}
use mathlib.Core.List.{IsPrefix}
use Rattle.logged_lock.proofs.Owned.{owned-own, owned-other}
use Rattle.tc_desk.specs.Alone.{with_places, HasMadeAll, HasSeenItsOwn}

-- If no operator but the k-th one has made an event, the k-th one has made the first event. So if it has also made all
-- later events, it has made all events.
own-step : (k at o : ℕ) (os : List ℕ) (e : Event) (es : List Event) → ((j : ℕ) → j ≢ k → owned j at (o ∷ os) (e ∷ es) ≡ [])
    → (((j : ℕ) → j ≢ k → owned j (suc at) os es ≡ []) → owned k (suc at) os es ≡ with_places (suc at) es) → owned k at (o ∷ os) (e ∷ es) ≡ with_places at (e ∷ es)
own-step k at o os e es none rest = elim (eqb_tells o k) [
  | inl h ↦
      let others : (j : ℕ) → j ≢ k → owned j (suc at) os es ≡ [] = λ j apart. sym (owned-other j at o os e es (λ same. apart (sym same ∙ h.1))) ∙ none j apart in
      owned-own k at o os e es h.1 ∙ ap (λ l. (at, e) ∷ l) (rest others)
  | inr h ↦ absurd (let nothing : (at, e) ∷ owned o (suc at) os es ≡ [] = sym (owned-own o at o os e es refl) ∙ none o h.1 in cc)
]

-- if no operator but the k-th one has made an event, the k-th one has made all events
all-own : (k at : ℕ) (os : List ℕ) (es : List Event) → length os ≡ length es → ((j : ℕ) → j ≢ k → owned j at os es ≡ []) → owned k at os es ≡ with_places at es
all-own k at [] [] len none = refl
all-own k at (o ∷ os) (e ∷ es) len none = own-step k at o os e es none (all-own k (suc at) os es (omega arith))
all-own k at _ _ len none = absurd (omega arith)

length-placed : (at : ℕ) (es : List Event) → length (with_places at es) ≡ length es
length-placed at [] = refl
length-placed at (e ∷ es) = omega (arith, length-placed (suc at) es)

placed-last : (at : ℕ) (es : List Event) (e : Event) → with_places at (es ++ e ∷ []) ≡ with_places at es ++ (at + length es, e) ∷ []
placed-last at [] e = ap (λ (n : ℕ). (n, e) ∷ []) (omega arith)
placed-last at (x ∷ es) e = ap (λ l. (at, x) ∷ l) (placed-last (suc at) es e) ∙ ap (λ (n : ℕ). (at, x) ∷ (with_places (suc at) es ++ (n, e) ∷ [])) (omega arith)

whole-prefix : {A : Type 0} (xs ys : List A) → IsPrefix xs ys → length ys ≤ length xs → xs ≡ ys
whole-prefix xs ys p le =
    let count : length xs + length p.0 ≡ length ys = sym (length-append xs p.0) ∙ ap (λ l. length l) p.1 in
    let none : p.0 ≡ [] = nil_from_length p.0 (omega (arith, count)) in
    sym (append-nil xs) ∙ (ap (λ l. xs ++ l) (sym none) ∙ p.1)

-- if only one of several operators has made any event, it has made, and has seen, all events of the journal
pub maker-alone : (makers : List Own) (k : ℕ) (own : Own) (journal : List Event) → made_by makers k ≡ own.made → ((j : ℕ) → j ≢ k → made_by makers j ≡ []) → HasSeenItsOwn own
    → IsBeginning own.seen (record { head = own.seen.head; entries = journal }) → IsMergeOf journal makers → HasMadeAll own × (own.seen.entries ≡ journal)
maker-alone makers k own journal mine none its behind merge =
    let all : own.made ≡ with_places 0 journal = sym mine ∙ (sym (merge.parts k) ∙ all-own k 0 merge.owners journal merge.long (λ j apart. merge.parts j ∙ none j apart)) in
    let count : length own.made ≡ length journal = ap (λ l. length l) all ∙ length-placed 0 journal in
    let seen : own.seen.entries ≡ journal = whole-prefix own.seen.entries journal behind.1 (omega (arith, count, its)) in
    (all ∙ ap (λ l. with_places 0 l) (sym seen), seen)

nobody-else : (own : Own) (j : ℕ) → j ≢ 0 → made_by (own ∷ []) j ≡ []
nobody-else own zero apart = absurd (apart refl)
nobody-else own (suc j) apart = refl

pub only-maker : (own : Own) (journal : List Event) → HasSeenItsOwn own → IsBeginning own.seen (record { head = own.seen.head; entries = journal }) → IsMergeOf journal (own ∷ [])
    → HasMadeAll own × (own.seen.entries ≡ journal)
only-maker own journal its behind merge = maker-alone (own ∷ []) 0 own journal refl (nobody-else own) its behind merge

-- if the operator has made all events of the journal at the moment of a call, it had seen this moment before the call
same-moment : (before : Own) (now : Moment) → HasSeenItsOwn before → IsBeginning before.seen now → before.made ≡ with_places 0 now.entries → HasMadeAll before × (now ≡ before.seen)
same-moment before now its later all =
    let count : length before.made ≡ length now.entries = ap (λ l. length l) all ∙ length-placed 0 now.entries in
    let seen : before.seen.entries ≡ now.entries = whole-prefix before.seen.entries now.entries later.1 (omega (arith, count, its)) in
    (all ∙ ap (λ l. with_places 0 l) (sym seen), λ i. record { head = later.0 i; entries = sym seen i })

pub alone-event : (before : Own) (now : Moment) (e : Event) → HasSeenItsOwn before → IsBeginning before.seen now → HasMadeAll (made e now before) → HasMadeAll before × (now ≡ before.seen)
alone-event before now e its later all =
    same-moment before now its later (same_from_push before.made (with_places 0 now.entries) (length now.entries, e) (0 + length now.entries, e) (all ∙ placed-last 0 now.entries e)).0

pub alone-look : (before : Own) (now : Moment) → HasSeenItsOwn before → IsBeginning before.seen now → HasMadeAll (looked now before) → HasMadeAll before × (now ≡ before.seen)
alone-look before now its later all = same-moment before now its later all

longer : (before : Own) (now : Moment) → IsBeginning before.seen now → length before.seen.entries ≤ length now.entries
longer before now later = omega (arith, sym (length-append before.seen.entries later.1.0) ∙ ap (λ l. length l) later.1.1)

pub seen-own : (before : Own) (now : Moment) (e : Event) → HasSeenItsOwn before → IsBeginning before.seen now → HasSeenItsOwn (made e now before) × HasSeenItsOwn (looked now before)
seen-own before now e its later =
    (omega (arith, longer before now later, its, length-append before.made ((length now.entries, e) ∷ []), length-append now.entries (e ∷ [])), omega (arith, longer before now later, its))
