-- A journal is determined by the events that each owner has made, with their places.
use Rattle.tc_apart.proofs.Names.{AreClosedTogether, AtStation, Bool, Event, History, IsMergeOf, List, Own, Roster, Some, [], accounts_of, ap, arith, column, false, if◌then◌else◌, length, made_by, operator_lists_of, owned, refl, settings_in, slice_get, subst, suc, sym, true, zero, ℕ, ◌+◌, ◌==◌, ◌∙◌, ◌∷◌, ◌≡◌}
use Rattle.tc_apart.proofs.GivenOut.{given-out}

same-self : (k : ℕ) → (k == k) ≡ true
same-self k = grind arith

-- this event, with this place, is in the list
abbrev IsIn : ℕ → Event → List (ℕ × Event) → Type 0
IsIn n e ps = (i : ℕ) × (slice_get ps i ≡ Some (n, e))

its-owner : (at n : ℕ) (owners : List ℕ) (es : List Event) (e : Event) → length owners ≡ length es → slice_get es n ≡ Some e → (k : ℕ) × IsIn (at + n) e (owned k at owners es)
its-owner at n [] [] e long is = absurd cc
its-owner at n [] (f ∷ es) e long is = absurd (omega arith)
its-owner at n (o ∷ os) [] e long is = absurd cc
its-owner at zero (o ∷ os) (f ∷ es) e long is =
    let same : f ≡ e = cc in
    let none : at ≡ at + 0 = omega arith in
    (o, (0, rw (same-self o) (rw (← none, same) refl)))
its-owner at (suc n) (o ∷ os) (f ∷ es) e long is =
    let rest = its-owner (suc at) n os es e (omega arith) is in
    let next : suc at + n ≡ at + suc n = omega arith in
    (rest.0, by rest.0 (o == rest.0) refl (subst (λ m. IsIn m e (owned rest.0 (suc at) os es)) next rest.1))
  where
    by : (k : ℕ) (t : Bool) → (o == k) ≡ t → IsIn (at + suc n) e (owned k (suc at) os es) → IsIn (at + suc n) e (owned k at (o ∷ os) (f ∷ es))
    by k true own h = (suc h.0, rw own h.1)
    by k false other h = (h.0, rw other h.1)

-- each event of an owner is in the journal, at its place
at-place : (k at n : ℕ) (owners : List ℕ) (es : List Event) (e : Event) → IsIn n e (owned k at owners es) → (i : ℕ) × (n ≡ at + i) × (slice_get es i ≡ Some e)
at-place k at n [] es e h = let is = h.1 in absurd cc
at-place k at n (o ∷ os) [] e h = let is = h.1 in absurd cc
at-place k at n (o ∷ os) (f ∷ es) e h = by (o == k) refl h (at-place k (suc at) n os es e) where
  more : ((i : ℕ) × (n ≡ suc at + i) × (slice_get es i ≡ Some e)) → (i : ℕ) × (n ≡ at + i) × (slice_get (f ∷ es) i ≡ Some e)
  more r = let is = r.1 in (suc r.0, omega arith, r.2)

  first : (i : ℕ) → slice_get ((at, f) ∷ owned k (suc at) os es) i ≡ Some (n, e) → (IsIn n e (owned k (suc at) os es) → (j : ℕ) × (n ≡ suc at + j) × (slice_get es j ≡ Some e))
      → (j : ℕ) × (n ≡ at + j) × (slice_get (f ∷ es) j ≡ Some e)
  first zero is rest =
      let both : (at, f) ≡ (n, e) = cc in
      let one : at ≡ n = ap (λ (p : ℕ × Event). p.0) both in
      let two : f ≡ e = ap (λ (p : ℕ × Event). p.1) both in
      (0, omega arith, ap (λ (g : Event). Some g) two)
  first (suc i) is rest = more (rest (i, is))

  by : (t : Bool) → (o == k) ≡ t → IsIn n e (owned k at (o ∷ os) (f ∷ es)) → (IsIn n e (owned k (suc at) os es) → (j : ℕ) × (n ≡ suc at + j) × (slice_get es j ≡ Some e))
      → (j : ℕ) × (n ≡ at + j) × (slice_get (f ∷ es) j ≡ Some e)
  by true own h rest = let is : IsIn n e ((at, f) ∷ owned k (suc at) os es) = subst (λ (t : Bool). IsIn n e (if t then (at, f) ∷ owned k (suc at) os es else owned k (suc at) os es)) own h in first is.0 is.1 rest
  by false other h rest = more (rest (subst (λ (t : Bool). IsIn n e (if t then (at, f) ∷ owned k (suc at) os es else owned k (suc at) os es)) other h))

-- if the owners made the same events of two journals, the second one has the events of the first one at the same places
carried-over : (one two : List Event) (makers others : List Own) → IsMergeOf one makers → IsMergeOf two others → ((k : ℕ) → made_by makers k ≡ made_by others k)
    → (n : ℕ) (e : Event) → slice_get one n ≡ Some e → slice_get two n ≡ Some e
carried-over one two makers others m r same n e is =
    let own = its-owner 0 n m.owners one e m.long is in
    let there = subst (IsIn (0 + n) e) (m.parts own.0 ∙ same own.0 ∙ sym (r.parts own.0)) own.1 in
    let found = at-place own.0 0 (0 + n) r.owners two e there in
    let place : found.0 ≡ n = let at = found.1 in omega arith in
    subst (λ i. slice_get two i ≡ Some e) place found.2

all-alike : (one two : List Event) → ((n : ℕ) (e : Event) → slice_get one n ≡ Some e → slice_get two n ≡ Some e) → ((n : ℕ) (e : Event) → slice_get two n ≡ Some e → slice_get one n ≡ Some e) → one ≡ two
all-alike [] [] go back = refl
all-alike [] (e ∷ es) go back = absurd (let is = back 0 e refl in cc)
all-alike (e ∷ es) [] go back = absurd (let is = go 0 e refl in cc)
all-alike (e ∷ es) (f ∷ fs) go back =
    let is = go 0 e refl in
    let same : f ≡ e = cc in
    rw same (ap (λ (xs : List Event). e ∷ xs) (all-alike es fs (λ n g h. go (suc n) g h) (λ n g h. back (suc n) g h)))

-- if a channel of one station has the settings of a channel of another station, and the operators made the same events
-- on both, at the same places, the closes return the same channel
pub same-channel : (station other : Roster) (operators others : List AtStation) (closed shut : List History) (place at : ℕ) (one two : History)
    → AreClosedTogether station operators closed → AreClosedTogether other others shut → slice_get closed place ≡ Some one → slice_get shut at ≡ Some two
    → slice_get (settings_in station) place ≡ slice_get (settings_in other) at
    → ((k : ℕ) → made_by (accounts_of (column place (operator_lists_of operators))) k ≡ made_by (accounts_of (column at (operator_lists_of others))) k) → one ≡ two
same-channel station other operators others closed shut place at one two together apart here there same made =
    let mine = given-out station operators closed place one together here in
    let theirs = given-out other others shut at two apart there in
    let go = carried-over one.journal two.journal (accounts_of (column place (operator_lists_of operators))) (accounts_of (column at (operator_lists_of others))) mine.1 theirs.1 made in
    let back = carried-over two.journal one.journal (accounts_of (column at (operator_lists_of others))) (accounts_of (column place (operator_lists_of operators))) theirs.1 mine.1 (λ k. sym (made k)) in
    let journals = all-alike one.journal two.journal go back in
    let both : Some one.settings ≡ Some two.settings = sym mine.0 ∙ same ∙ theirs.0 in
    let settings : one.settings ≡ two.settings = cc in
    λ i. record { settings = settings i; journal = journals i }
