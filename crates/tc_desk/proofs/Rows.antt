-- The steps of closing a list of desks: their locks are taken, operators are reported to their owners list by list, and
-- their channels are taken out.
use Rattle.tc_desk.proofs.Names.{◌≡◌, ◌<◌, ◌≤◌, ◌-◌, ℕ, zero, suc, List, [], ◌∷◌, ◌++◌, length, get_or, map, reverse, Some, slice_get, refl, sym, ap, subst, ◌∙◌, append_assoc, arith, All, length-map, slice_get_within, get_or_from_slice_get, total_made, IsBeginning, IsMergeOf, Event, Own, Moment, AtLock, AtHand, accounts_of, reported_at, CanClose, IsBalanced, IsClosed, AreOurs, AreSame, CanCloseEach, CannotCloseOne, IsFresh, IsOut, column, owners_of, nobody, settings_of_desks, reported_row, reported_rows, drop, set, Vec, AllZip, map-append, reverse-append, reverse-reverse, length-reverse, get_or-reverse, with_items_is, All-tail, All-head, none-some, same_Some, slice_get-map, AreBehind, IsClosingRefusal, AreClosed, AreMoments, HasCause, heads_of, issued_of, locks_of, reported_one}
use Rattle.std.proofs.Common.{append-nil}
use Rattle.std.specs.Vec.{with_items}
use Rattle.std.specs.Option.{option_map}
use Rattle.tc_channel.specs.Journal.{History}
use Rattle.tc_desk.specs.{TableId}
use Rattle.tc_desk.proofs.Counted.{as-balanced, cause-of, not-balanced}
use Rattle.tc_desk.specs.declared.together.Refusal.{Refusal}
use Rattle.tc_desk.specs.declared.together.Refusal.TheVariants.{Unbalanced}

-- ---- locks that are taken and unlocked

-- in the reversed list of owners, the owner of the last guard comes first
pub one_guard : (ps : List AtLock) (hs : List AtHand) (p : AtLock) (h : AtHand) → h.owner ≡ p → ps ++ reverse (owners_of (hs ++ h ∷ [])) ≡ (ps ++ p ∷ []) ++ reverse (owners_of hs)
one_guard ps hs p h is =
    ap (λ (l : List AtLock). ps ++ reverse l) (map-append (λ (x : AtHand). x.owner) hs (h ∷ []))
    ∙ ap (λ (l : List AtLock). ps ++ l) (reverse-append (owners_of hs) (h.owner ∷ []))
    ∙ ap (λ (k : AtLock). ps ++ (k ∷ reverse (owners_of hs))) is
    ∙ sym (append_assoc ps (p ∷ []) (reverse (owners_of hs)))

same_map : {Y : Type 0} (f : AtLock → Y) (ps rest : List AtLock) (p q : AtLock) → f p ≡ f q → map f ((ps ++ p ∷ []) ++ rest) ≡ map f ((ps ++ q ∷ []) ++ rest)
same_map f ps rest p q is = simp (map-append, is)

pub guard_step : (all owned_desks ps : List AtLock) (hs next : List AtHand) (p : AtLock) (h : AtHand) → owned_desks ≡ ps ++ p ∷ [] → next ≡ hs ++ h ∷ [] → h.owner ≡ p
    → owned_desks ++ reverse (owners_of hs) ≡ all → ps ++ reverse (owners_of next) ≡ all
guard_step all owned_desks ps hs next p h popped grown is before =
    ap (λ (l : List AtHand). ps ++ reverse (owners_of l)) grown ∙ one_guard ps hs p h is ∙ sym (ap (λ (l : List AtLock). l ++ reverse (owners_of hs)) popped) ∙ before

-- if one desk is unlocked, the list of desks still has the same locks, heads and numbers of issued operators
pub roll_back_step : (old ps next : List AtLock) (guard hs : List AtHand) (p : AtLock) (h : AtHand) → guard ≡ hs ++ h ∷ [] → next ≡ ps ++ p ∷ [] → p.lock ≡ h.owner.lock → p.own.seen.head ≡ h.owner.own.seen.head → p.own.issued ≡ h.owner.own.issued
    → AreSame old (ps ++ reverse (owners_of guard)) → AreSame old (next ++ reverse (owners_of hs))
roll_back_step old ps next guard hs p h popped grown lock head issued same =
    let rest = reverse (owners_of hs) in
    let before : ps ++ reverse (owners_of guard) ≡ (ps ++ h.owner ∷ []) ++ rest = ap (λ (l : List AtHand). ps ++ reverse (owners_of l)) popped ∙ one_guard ps hs h.owner h refl in
    subst (λ (l : List AtLock). AreSame old (l ++ rest)) (sym grown) (
      same_map (λ (o : AtLock). o.lock) ps rest p h.owner lock ∙ ap locks_of (sym before) ∙ same.0,
      same_map (λ (o : AtLock). o.own.seen.head) ps rest p h.owner head ∙ ap heads_of (sym before) ∙ same.1,
      same_map (λ (o : AtLock). o.own.issued) ps rest p h.owner issued ∙ ap issued_of (sym before) ∙ same.2,
    )

pub owners-reverse : (hs : List AtHand) → owners_of (reverse hs) ≡ reverse (owners_of hs)
owners-reverse [] = refl
owners-reverse (h ∷ hs) =
    ap owners_of (reverse-append (h ∷ []) hs) ∙ map-append (λ (x : AtHand). x.owner) (reverse hs) (h ∷ [])
    ∙ ap (λ (k : List AtLock). k ++ h.owner ∷ []) (owners-reverse hs) ∙ sym (reverse-append (h.owner ∷ []) (owners_of hs))

pub fresh-reverse : (hs : List AtHand) → All IsFresh hs → All IsFresh (reverse hs)
fresh-reverse hs all = λ k d lt.
    let long = length-reverse hs in let inside : k < length hs = omega (arith, long, lt) in
    subst IsFresh (sym (get_or-reverse hs k d inside)) (all (length hs - 1 - k) d (omega arith))

-- once all locks are taken, the reversed guards are moments of the desks, in the order of the desks
pub all_guard : (owned_desks left : List AtLock) (guard back : List AtHand) → left ≡ [] → left ++ reverse (owners_of guard) ≡ owned_desks → back ≡ reverse guard → All IsFresh guard → AreMoments owned_desks back
all_guard owned_desks left guard back none all is fresh = (
  ap owners_of is ∙ owners-reverse guard ∙ sym (ap (λ (l : List AtLock). l ++ reverse (owners_of guard)) none) ∙ all,
  subst (All IsFresh) (sym is) (fresh-reverse guard fresh),
)

-- once all desks are unlocked, the list of desks has the same locks, heads and numbers of issued operators as before
pub given_back : (owned_desks next : List AtLock) (guard back : List AtHand) → owned_desks ≡ [] → back ≡ reverse guard → AreSame (owned_desks ++ reverse (owners_of back)) next → AreSame (owners_of guard) next
given_back owned_desks next guard back none is same =
    subst (λ (l : List AtLock). AreSame l next)
    (ap (λ (l : List AtLock). l ++ reverse (owners_of back)) none ∙ ap (λ (l : List AtHand). reverse (owners_of l)) is ∙ ap reverse (owners-reverse guard) ∙ reverse-reverse (owners_of guard)) same

-- ---- operators and desks

same_long : (os : List AtLock) (hs : List AtHand) (place : ℕ) → locks_of os ≡ locks_of (owners_of hs) → place < length hs → place < length os
same_long os hs place is inside =
    let one = length-map os (λ (o : AtLock). o.lock) in
    let two = length-map (owners_of hs) (λ (o : AtLock). o.lock) in
    let three = length-map hs (λ (h : AtHand). h.owner) in
    let same = ap (λ (l : List TableId). length l) is in
    omega (arith, one, two, three, same, inside)

-- each list of operators has an operator at each place
pub inside_all : {X : Type 0} (at : X → List AtLock) (hs : List AtHand) (xs : List X) (place : ℕ) → AreOurs (owners_of hs) (map at xs) → place < length hs → All (λ (x : X). place < length (at x)) xs
inside_all at hs [] place ours inside k d lt = absurd (omega arith)
inside_all at hs (x ∷ xs) place ours inside zero d lt = same_long (at x) hs place (All-head (λ (operator_list : List AtLock). locks_of operator_list ≡ locks_of (owners_of hs)) (at x) (map at xs) ours) inside
inside_all at hs (x ∷ xs) place ours inside (suc k) d lt = inside_all at hs xs place (All-tail (λ (operator_list : List AtLock). locks_of operator_list ≡ locks_of (owners_of hs)) (at x) (map at xs) ours) inside k d (omega arith)

-- ---- owners to which operators are reported

-- each of these operators is at the lock of the desk at its place
abbrev pub AreAt : List AtHand → List AtLock → Type 0
AreAt [] [] = Unit {0}
AreAt (h ∷ hs) [] = Unit {0}
AreAt [] (o ∷ os) = ⊥
AreAt (h ∷ hs) (o ∷ os) = (o.lock ≡ h.owner.lock) × AreAt hs os

pub are_at : (hs : List AtHand) (os : List AtLock) → locks_of os ≡ locks_of (owners_of hs) → AreAt hs os
are_at [] (o ∷ os) is = let l = ap (λ (x : List TableId). length x) is in absurd (omega arith)
are_at (h ∷ hs) (o ∷ os) is = (ap (λ (x : List TableId). get_or x 0 o.lock) is, are_at hs os (ap (λ (x : List TableId). drop 1 x) is))
are_at [] [] is = tt
are_at (h ∷ hs) [] is = tt

reported_none : (hs : List AtHand) → reported_row hs [] ≡ hs
reported_none [] = refl
reported_none (h ∷ hs) = refl

pub all_reported : (hs : List AtHand) (os : List AtLock) → os ≡ [] → reported_row hs os ≡ hs
all_reported hs os none = ap (λ (l : List AtLock). reported_row hs l) none ∙ reported_none hs

-- reporting the last operator first, and then the others, has the same result as reporting all operators
pub record IsLastReported (hs : List AtHand) (all os : List AtLock) (o : AtLock) (n : ℕ) (d : AtHand) : Type 0 where
  pub inside : n < length hs
  pub lock : o.lock ≡ (get_or hs n d).owner.lock
  pub rest : AreAt (set hs n (reported_one (get_or hs n d) o)) os
  pub reported : reported_row hs all ≡ reported_row (set hs n (reported_one (get_or hs n d) o)) os

last_of : (hs : List AtHand) (os : List AtLock) (o : AtLock) (d : AtHand) → AreAt hs (os ++ o ∷ []) → IsLastReported hs (os ++ o ∷ []) os o (length os) d
last_of [] [] o d at = absurd at
last_of [] (p ∷ os) o d at = absurd at
last_of (h ∷ hs) [] o d at = record { inside = omega arith; lock = at.0; rest = tt; reported = ap (λ (l : List AtHand). reported_one h o ∷ l) (reported_none hs) }
last_of (h ∷ hs) (p ∷ os) o d at =
    let before = last_of hs os o d at.1 in let lt = before.inside in
    record { inside = omega arith; lock = before.lock; rest = (at.0, before.rest); reported = ap (λ (l : List AtHand). reported_one h p ∷ l) before.reported }

pub last_reported : (hs : List AtHand) (all os : List AtLock) (o : AtLock) (n : ℕ) (d : AtHand) → all ≡ os ++ o ∷ [] → n ≡ length os → AreAt hs all → IsLastReported hs all os o n d
last_reported hs all os o n d is long at =
    subst (λ (x : List AtLock × ℕ). IsLastReported hs x.0 os o x.1 d) (λ i. (sym is i, sym long i)) (last_of hs os o d (subst (AreAt hs) is at))

pub reported_step : (hs first : List AtHand) (all os whole : List AtLock) (o : AtLock) (n : ℕ) (d next : AtHand) → all ≡ os ++ o ∷ [] → n ≡ length os → next ≡ reported_one (get_or hs n d) o → AreAt hs all
    → reported_row hs all ≡ reported_row first whole → (reported_row (set hs n next) os ≡ reported_row first whole) × AreAt (set hs n next) os
reported_step hs first all os whole o n d next is long next_is at before =
    let last = last_reported hs all os o n d is long at in
    let same : set hs n (reported_one (get_or hs n d) o) ≡ set hs n next = ap (λ (x : AtHand). set hs n x) (sym next_is) in
    (ap (λ (l : List AtHand). reported_row l os) (sym same) ∙ sym last.reported ∙ before, subst (λ (l : List AtHand). AreAt l os) same last.rest)

pub owners-reported : (hs : List AtHand) (os : List AtLock) → owners_of (reported_row hs os) ≡ owners_of hs
owners-reported (h ∷ hs) (o ∷ os) = ap (λ (l : List AtLock). h.owner ∷ l) (owners-reported hs os)
owners-reported _ _ = refl

pub ours_after : (hs : List AtHand) (os : List AtLock) (rows : List (List AtLock)) → AreOurs (owners_of hs) rows → AreOurs (owners_of (reported_row hs os)) rows
ours_after hs os rows ours = subst (λ (l : List AtLock). AreOurs l rows) (sym (owners-reported hs os)) ours

pub row_step : {X : Type 0} (at : X → List AtLock) (hs next first : List AtHand) (rest more : List X) (x : X) (os : List AtLock) (whole : List (List AtLock)) → rest ≡ x ∷ more → os ≡ at x → next ≡ reported_row hs os
    → reported_rows hs (map at rest) ≡ reported_rows first whole → AreOurs (owners_of hs) (map at rest) → (reported_rows next (map at more) ≡ reported_rows first whole) × AreOurs (owners_of next) (map at more)
row_step {X} at hs next first rest more x os whole rest_is os_is is before ours =
    let next_is : next ≡ reported_row hs (at x) = is ∙ ap (λ (l : List AtLock). reported_row hs l) os_is in
    let all : AreOurs (owners_of hs) (at x ∷ map at more) = subst (λ (l : List X). AreOurs (owners_of hs) (map at l)) rest_is ours in (
      ap (λ (l : List AtHand). reported_rows l (map at more)) next_is ∙ sym (ap (λ (l : List X). reported_rows hs (map at l)) rest_is) ∙ before,
      subst (λ (l : List AtHand). AreOurs (owners_of l) (map at more)) (sym next_is)
          (ours_after hs (at x) (map at more) (All-tail (λ (operator_list : List AtLock). locks_of operator_list ≡ locks_of (owners_of hs)) (at x) (map at more) all)),
    )

pub row_here : {X : Type 0} (at : X → List AtLock) (hs : List AtHand) (rest more : List X) (x : X) (os : List AtLock) → rest ≡ x ∷ more → os ≡ at x → AreOurs (owners_of hs) (map at rest) → locks_of os ≡ locks_of (owners_of hs)
row_here {X} at hs rest more x os rest_is os_is ours =
    rw os_is (All-head (λ (operator_list : List AtLock). locks_of operator_list ≡ locks_of (owners_of hs)) (at x) (map at more) (subst (λ (l : List X). AreOurs (owners_of hs) (map at l)) rest_is ours))

-- ---- the desk at a place

row_at : (hs : List AtHand) (os : List AtLock) (place : ℕ) (h : AtHand) → locks_of os ≡ locks_of (owners_of hs) → slice_get hs place ≡ Some h → slice_get (reported_row hs os) place ≡ Some (reported_one h (get_or os place nobody))
row_at [] os place h is at = absurd (none-some _ at)
row_at (x ∷ hs) [] place h is at = let l = ap (λ (y : List TableId). length y) is in absurd (omega arith)
row_at (x ∷ hs) (o ∷ os) zero h is at = ap (λ (y : AtHand). Some (reported_one y o)) (same_Some x h at)
row_at (x ∷ hs) (o ∷ os) (suc place) h is at = row_at hs os place h (ap (λ (y : List TableId). drop 1 y) is) at

rows_at : (hs : List AtHand) (rows : List (List AtLock)) (place : ℕ) (h : AtHand) → AreOurs (owners_of hs) rows → slice_get hs place ≡ Some h
    → slice_get (reported_rows hs rows) place ≡ Some (reported_at h (accounts_of (column place rows)))
rows_at hs [] place h ours at = at ∙ ap (λ (t : List Own). Some (record { desk = h.desk; owner = h.owner; now = h.now; reported = t })) (sym (append-nil h.reported))
rows_at hs (row ∷ rows) place h ours at =
    let own = (get_or row place nobody).own in
    let first = row_at hs row place h (All-head (λ (operator_list : List AtLock). locks_of operator_list ≡ locks_of (owners_of hs)) row rows ours) at in
    let rest : AreOurs (owners_of hs) rows = All-tail (λ (operator_list : List AtLock). locks_of operator_list ≡ locks_of (owners_of hs)) row rows ours in
    rows_at (reported_row hs row) rows place (reported_one h (get_or row place nobody)) (ours_after hs row rows rest) first
    ∙ ap (λ (t : List Own). Some (record { desk = h.desk; owner = h.owner; now = h.now; reported = t })) (append_assoc h.reported (own ∷ []) (accounts_of (column place rows)))

owner_at : (hs : List AtHand) (place : ℕ) (owned_desk : AtLock) → slice_get (owners_of hs) place ≡ Some owned_desk → (h : AtHand) × (slice_get hs place ≡ Some h) × (h.owner ≡ owned_desk)
owner_at [] place owned_desk at = absurd (none-some _ at)
owner_at (h ∷ hs) zero owned_desk at = (h, refl, same_Some h.owner owned_desk at)
owner_at (h ∷ hs) (suc place) owned_desk at = owner_at hs place owned_desk at

owner_there : (hs : List AtHand) (place : ℕ) (h : AtHand) → slice_get hs place ≡ Some h → slice_get (owners_of hs) place ≡ Some h.owner
owner_there hs place h at = slice_get-map (λ (x : AtHand). x.owner) hs place ∙ ap (λ o. option_map (λ (x : AtHand). x.owner) o) at

-- ---- channels that are taken out

pub one_out : (hs : List AtHand) (cs : List History) (h : AtHand) (c : History) → AllZip IsOut hs cs → IsOut h c → AllZip IsOut (hs ++ h ∷ []) (cs ++ c ∷ [])
one_out [] [] h c all one = (one, tt)
one_out (g ∷ hs) (d ∷ cs) h c all one = (all.0, one_out hs cs h c all.1 one)
one_out _ _ h c all one = absurd all

out_at : (hs : List AtHand) (cs : List History) (place : ℕ) (h : AtHand) (c : History) → AllZip IsOut hs cs → slice_get hs place ≡ Some h → slice_get cs place ≡ Some c → IsOut h c
out_at [] cs place h c all here there = absurd (none-some _ here)
out_at (g ∷ hs) [] place h c all here there = absurd all
out_at (g ∷ hs) (d ∷ cs) zero h c all here there = subst (λ (x : AtHand × History). IsOut x.0 x.1) (λ i. (same_Some g h here i, same_Some d c there i)) all.0
out_at (g ∷ hs) (d ∷ cs) (suc place) h c all here there = out_at hs cs place h c all.1 here there

as_many_out : (hs : List AtHand) (cs : List History) → AllZip IsOut hs cs → length cs ≡ length hs
as_many_out [] [] all = refl
as_many_out (g ∷ hs) (d ∷ cs) all = ap suc (as_many_out hs cs all.1)
as_many_out _ _ all = absurd all

owners-rows : (hs : List AtHand) (rows : List (List AtLock)) → owners_of (reported_rows hs rows) ≡ owners_of hs
owners-rows hs [] = refl
owners-rows hs (row ∷ rows) = owners-rows (reported_row hs row) rows ∙ owners-reported hs row

-- if the reports are written through a slice over the desks, the list has the desks after these reports
pub written_back : {Z : Type 0} (v : Vec AtHand Z) (start next : List AtHand) (rows : List (List AtLock)) → start ≡ v.items → next ≡ reported_rows start rows → (with_items v next).items ≡ reported_rows v.items rows
written_back v start next rows from is =
    let one = ap (λ (l : List AtHand). length l) is in
    let two = length-map (reported_rows start rows) (λ (h : AtHand). h.owner) in
    let three = ap (λ (l : List AtLock). length l) (owners-rows start rows) in
    let four = length-map start (λ (h : AtHand). h.owner) in
    let five = ap (λ (l : List AtHand). length l) from in
    let six = v.ok.0 in
    with_items_is v next (omega (arith, one, two, three, four, five, six)) ∙ (is ∙ ap (λ (l : List AtHand). reported_rows l rows) from)

pub settings_out : (hs : List AtHand) (cs : List History) → AllZip IsOut hs cs → map (λ (c : History). c.settings) cs ≡ settings_of_desks (owners_of hs)
settings_out [] [] all = refl
settings_out (g ∷ hs) (d ∷ cs) all = λ i. all.0.settings i ∷ settings_out hs cs all.1 i
settings_out _ _ all = absurd all

pub closed_one : (h : AtHand) (operators : List AtLock) (c : History) → h.reported ≡ [] → IsBeginning h.owner.own.seen h.now → CanClose h.owner.own.issued (accounts_of operators) h.now.entries
    → IsOut (reported_at h (accounts_of operators)) c → IsClosed h.owner operators c
closed_one h operators c none later can out =
    let accounts = accounts_of operators in
    let reported : h.reported ++ accounts ≡ accounts = ap (λ (t : List Own). t ++ accounts) none in
    let whole : h.owner.own.issued ≤ length accounts → total_made accounts ≡ length h.now.entries = subst (λ (t : List Own). h.owner.own.issued ≤ length t → total_made t ≡ length h.now.entries) reported out.whole in
    let balanced : IsBalanced accounts h.now.entries = as-balanced h.owner.own.issued accounts h.now.entries can whole in
    let now : h.now ≡ record { head = h.owner.own.seen.head; entries = c.journal } = λ i. record { head = later.0 i; entries = sym out.journal i } in
    record {
      settings = out.settings;
      balanced = subst (λ (journal : List Event). IsBalanced accounts journal) (sym out.journal) balanced;
      merge = subst (λ (t : List Own). IsMergeOf c.journal t) reported (out.merge (ap (λ (t : List Own). total_made t) reported ∙ balanced.0));
      seen = subst (λ (x : List Own × Moment). AreBehind x.0 x.1) (λ i. (reported i, now i)) out.seen;
    }

-- if the operators of each desk can close it, and the channels are taken out after all reports, the desks are closed
pub closed_all : (owned_desks : List AtLock) (rows : List (List AtLock)) (guard reported : List AtHand) (closed : List History) → AreMoments owned_desks guard → AreOurs owned_desks rows → CanCloseEach guard rows
    → AllZip IsOut reported closed → reported ≡ reported_rows guard rows → AreClosed owned_desks rows closed
closed_all owned_desks rows guard reported closed moments ours can all is =
    let ours_guard : AreOurs (owners_of guard) rows = subst (λ (l : List AtLock). AreOurs l rows) (sym moments.0) ours in
    let out : AllZip IsOut (reported_rows guard rows) closed = subst (λ (l : List AtHand). AllZip IsOut l closed) is all in
    record {
      as_many = as_many_out (reported_rows guard rows) closed out ∙ sym (length-map (reported_rows guard rows) (λ (h : AtHand). h.owner)) ∙ ap (λ (l : List AtLock). length l) (owners-rows guard rows ∙ moments.0);
      each = λ place owned_desk channel here there.
          let found = owner_at guard place owned_desk (ap (λ (l : List AtLock). slice_get l place) moments.0 ∙ here) in
          let h = found.0 in
          let inside = slice_get_within guard place h found.1 in
          let fresh : IsFresh h = subst IsFresh (get_or_from_slice_get guard place h h found.1) (moments.1 place h inside) in
          subst (λ (p : AtLock). IsClosed p (column place rows) channel) found.2
          (closed_one h (column place rows) channel fresh.0 fresh.1 (can place h found.1) (out_at (reported_rows guard rows) closed place _ channel out (rows_at guard rows place h ours_guard found.1) there));
    }

-- if the operators of one desk can't close it, `Unbalanced` is a reason why the desks weren't closed
pub unbalanced : (owned_desks : List AtLock) (rows : List (List AtLock)) (guard : List AtHand) (refusal : Refusal) → refusal ≡ Unbalanced → AreMoments owned_desks guard → CannotCloseOne guard rows → IsClosingRefusal owned_desks rows refusal
unbalanced owned_desks rows guard refusal is moments cannot =
    let h = cannot.1 in
    subst (IsClosingRefusal owned_desks rows) (sym is) (guard, moments, λ balanced. not-balanced h.owner.own.issued (accounts_of (column cannot.0 rows)) h.now.entries cannot.3 (balanced cannot.0 h cannot.2))

pub caused : (owned_desks : List AtLock) (rows : List (List AtLock)) (guard : List AtHand) → AreMoments owned_desks guard → CannotCloseOne guard rows → HasCause owned_desks rows
caused owned_desks rows guard moments cannot =
    let h = cannot.1 in
    let at : slice_get (owners_of guard) cannot.0 ≡ Some h.owner = owner_there guard cannot.0 h cannot.2 in
    (cannot.0, h.owner, ap (λ (l : List AtLock). slice_get l cannot.0) (sym moments.0) ∙ at, cause-of h.owner.own.issued (accounts_of (column cannot.0 rows)) h.now.entries cannot.3)
