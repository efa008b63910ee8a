-- Each kind of step at a lock keeps its rule.
use Rattle.std.proofs.Common.{◌≡◌, ◌≢◌, ◌⊎◌, inl, inr, ⊎_elim, ℕ, zero, suc, ◌+◌, ◌<◌, ◌≤◌, ◌==◌, cond, List, [], ◌∷◌, ◌++◌, length, map, set, Bool, true, false, true≢false, refl, sym, ap, ◌∙◌, subst, arith, length-append, length-set, lt_of_not-le, append-nil, append_assoc, eq-eqb, ne_eqb}
use Rattle.std.specs.Prelude.{slice_index, MatchBool}
use Rattle.std.proofs.lemmas.List.{length-map}
use mathlib.Core.Logic.{dite}
use native.Mathlib.Decide.{ℕ_discrete, dec_le}
use prog.Atomic.{either}
use mathlib.Core.Option.{Option, some, none, some-ne-none, some-injective}
use lib.ListN.{get_elem?}
use Rattle.atomic_table.specs.Table.{State, Me, Act, keeps, takes, gives, Valid, homes_after, carried_after, Allows, Splits, Joins, Enters, opening}
use Rattle.atomic_table.proofs.Lists.{at_set, at_snoc, at_longer, set_again, set_else, set_here, exchanged}
use mathlib.Core.List.{IsPrefix}
use Rattle.logged_lock.specs.declared.views.Log.{Log}
use Rattle.logged_lock.specs.declared.views.Account.{Account}
use Rattle.logged_lock.specs.declared.views.View.{View}
use Rattle.logged_lock.specs.Log.{with_entry, IsBeginning, start_of, owned, made_by}
use Rattle.logged_lock.specs.Rule.{words_of, seat_tag, reported_tag, newcomer, guest, issued_one, gone, reported_of, locked, unlocked, unlocked_with, makers_in, AreCounted, IsSeat, AreReported, IsFree, IsTakenOut, IsLock, IsIdle, HasLock, IsTaken, NoSeatOwns, IsAccountedFor}
use Rattle.logged_lock.proofs.Owned.{owned-here, owned-else, renamed, owned-renamed, owned-renamed-old, owned-renamed-new, made_by-last, made_by-end, made_by-else}

pub some_word : (n : ℕ) → n ≡ 33 → 0 < n
some_word n e = omega arith

pub the_word : (n : ℕ) → n ≡ 33 → 16 < n
the_word n e = omega arith

off : false ≡ true → ⊥
off e = true≢false (sym e)

prefix-self : {A : Type 0} (xs : List A) → IsPrefix xs xs
prefix-self xs = ([], append-nil xs)

pub prefix-trans : {A : Type 0} (xs ys zs : List A) → IsPrefix xs ys → IsPrefix ys zs → IsPrefix xs zs
prefix-trans xs ys zs p q = (p.0 ++ q.0, sym (append_assoc xs p.0 q.0) ∙ (ap (λ l. l ++ q.0) p.1 ∙ q.1))

beginning-self : {D E : Type 0} (h : Log D E) → IsBeginning h h
beginning-self h = (refl, prefix-self h.entries)

pub beginning-trans : {D E : Type 0} (a b c : Log D E) → IsBeginning a b → IsBeginning b c → IsBeginning a c
beginning-trans a b c p q = (q.0 ∙ p.0, prefix-trans a.entries b.entries c.entries p.1 q.1)

beginning-with_entry : {D E : Type 0} (h : Log D E) (e : E) → IsBeginning h (with_entry h e)
beginning-with_entry h e = (refl, (e ∷ [], refl))

inside : {D E : Type 0} (l : List (View D E)) (i : ℕ) (a : View D E) → get_elem? l i ≡ some a → i < length l
inside [] i a e = absurd (some-ne-none a (sym e))
inside (x ∷ xs) zero a e = omega arith
inside (x ∷ xs) (suc i) a e = let h = inside xs i a e in omega arith

at_end : {D E : Type 0} (l : List (View D E)) (a b : View D E) (j : ℕ) → get_elem? (l ++ a ∷ []) j ≡ some b → (get_elem? l j ≡ some b) ⊎ ((j ≡ length l) × (a ≡ b))
at_end [] a b zero e = inr (refl, some-injective a b e)
at_end [] a b (suc j) e = absurd (some-ne-none b (sym e))
at_end (x ∷ xs) a b zero e = inl e
at_end (x ∷ xs) a b (suc j) e = ⊎_elim (λ h. inl h) (λ h. inr (ap suc h.0, h.1)) (at_end xs a b j e)

-- 1 for a maker, and 0 for any other seat
abbrev bit : Bool → ℕ
bit b = cond b 1 0

-- if a seat's view changes, but not whether the seat is a maker, the number of makers stays the same
makers-set : {D E : Type 0} (views : List (View D E)) (id : ℕ) (v w : View D E) → get_elem? views id ≡ some v → w.maker ≡ v.maker → makers_in (set views id w) ≡ makers_in views
makers-set [] id v w here same = refl
makers-set {D = D} {E = E} (x ∷ xs) zero v w here same = ap (λ (b : Bool). bit b + makers_in xs) (same ∙ ap (λ (u : View D E). u.maker) (sym (some-injective x v here)))
makers-set (x ∷ xs) (suc id) v w here same = ap (λ (n : ℕ). bit x.maker + n) (makers-set xs id v w here same)

-- there is one maker fewer if a seat ceases to be one
makers-fewer : {D E : Type 0} (views : List (View D E)) (id : ℕ) (v w : View D E) → get_elem? views id ≡ some v → v.maker ≡ true → w.maker ≡ false → suc (makers_in (set views id w)) ≡ makers_in views
makers-fewer [] id v w here was is = absurd (some-ne-none v (sym here))
makers-fewer {D = D} {E = E} (x ∷ xs) zero v w here was is =
    let one : bit x.maker ≡ 1 = ap (λ (b : Bool). bit b) (ap (λ (u : View D E). u.maker) (some-injective x v here) ∙ was) in
    let nothing : bit w.maker ≡ 0 = ap (λ (b : Bool). bit b) is in
    omega (arith, one, nothing)
makers-fewer (x ∷ xs) (suc id) v w here was is = let more = makers-fewer xs id v w here was is in omega (arith, more)

makers-end : {D E : Type 0} (views : List (View D E)) (w : View D E) → makers_in (views ++ w ∷ []) ≡ makers_in views + bit w.maker
makers-end [] w = omega arith
makers-end (x ∷ xs) w = let more = makers-end xs w in omega (arith, more)

cond-true : (b : Bool) → bit b ≡ 0 → b ≡ false
cond-true true h = absurd (omega (arith, h))
cond-true false h = refl

makers-none : {D E : Type 0} (views : List (View D E)) (id : ℕ) (v : View D E) → makers_in views ≡ 0 → get_elem? views id ≡ some v → v.maker ≡ false
makers-none [] id v empty here = absurd (some-ne-none v (sym here))
makers-none {D = D} {E = E} (x ∷ xs) zero v empty here =
    let nothing : bit x.maker ≡ 0 = omega (arith, empty) in
    ap (λ (u : View D E). u.maker) (sym (some-injective x v here)) ∙ cond-true x.maker nothing
makers-none (x ∷ xs) (suc id) v empty here = makers-none xs id v (omega (arith, empty)) here

-- if the first seat is the only maker, no other seat is one
only-first : {D E : Type 0} (views : List (View D E)) (p : View D E) (id : ℕ) (v : View D E) → get_elem? views 0 ≡ some p → p.maker ≡ true → makers_in views ≤ 1 → id ≢ 0 → get_elem? views id ≡ some v → v.maker ≡ false
only-first [] p id v first lead one away here = absurd (some-ne-none p (sym first))
only-first (x ∷ xs) p zero v first lead one away here = absurd (away refl)
only-first {D = D} {E = E} (x ∷ xs) p (suc id) v first lead one away here =
    let this : bit x.maker ≡ 1 = ap (λ (b : Bool). bit b) (ap (λ (u : View D E). u.maker) (some-injective x p first) ∙ lead) in
    makers-none xs id v (omega (arith, one, this)) here

seat-there : {D E : Type 0} (views : List (View D E)) (id : ℕ) → id < length views → (v : View D E) × (get_elem? views id ≡ some v)
seat-there [] id lt = absurd (omega (arith, lt))
seat-there (x ∷ xs) zero lt = (x, refl)
seat-there (x ∷ xs) (suc id) lt = seat-there xs id (omega (arith, lt))

-- The facts about the first seat stay true when a seat's view changes. The change must not concern the seat's reports,
-- the number of seats that it issued, or whether it is a maker.
first-stays : {D E : Type 0} (views : List (View D E)) (id : ℕ) (p v w : View D E) → get_elem? views 0 ≡ some p → get_elem? views id ≡ some v → w.reported ≡ v.reported → w.maker ≡ v.maker → w.own.issued ≡ v.own.issued
    → AreCounted views p → (q : View D E) × (get_elem? (set views id w) 0 ≡ some q) × (q.reported ≡ p.reported) × AreCounted (set views id w) q
first-stays [] id p v w at here same maker issued counted = absurd (some-ne-none p (sym at))
first-stays {D = D} {E = E} (x ∷ xs) zero p v w at here same maker issued counted =
    let is : v ≡ p = sym (some-injective x v here) ∙ some-injective x p at in
    let reported : w.reported ≡ p.reported = same ∙ ap (λ (u : View D E). u.reported) is in
    let many = counted.many in
    let long : length w.reported ≡ length p.reported = ap (λ (l : List (Account D E)). length l) reported in
    let out : w.own.issued ≡ p.own.issued = issued ∙ ap (λ (u : View D E). u.own.issued) is in
    let makers : makers_in (set (x ∷ xs) 0 w) ≡ makers_in (x ∷ xs) = makers-set (x ∷ xs) 0 v w here maker in
    (w, refl, reported, record { lead = maker ∙ ap (λ (u : View D E). u.maker) is ∙ counted.lead; many = (λ i. makers i + long i) ∙ (many ∙ ap suc (sym out)) })
first-stays (x ∷ xs) (suc id) p v w at here same maker issued counted =
    let makers : makers_in (set (x ∷ xs) (suc id) w) ≡ makers_in (x ∷ xs) = makers-set (x ∷ xs) (suc id) v w here maker in
    (p, at, refl, record { lead = counted.lead; many = (λ i. makers i + length p.reported) ∙ counted.many })

seats-set : {D E : Type 0} (now : Log D E) (owners : List ℕ) (holder : Option ℕ) (views : List (View D E)) (id : ℕ) (w : View D E)
    → ((j : ℕ) (u : View D E) → j ≢ id → get_elem? views j ≡ some u → IsSeat now owners holder j u) → IsSeat now owners holder id w
    → (j : ℕ) (u : View D E) → get_elem? (set views id w) j ≡ some u → IsSeat now owners holder j u
seats-set {D = D} {E = E} now owners holder views id w others mine j u e =
    ⊎_elim
    (λ (x : (j ≡ id) × (w ≡ u)). subst (λ (y : ℕ × View D E). IsSeat now owners holder y.0 y.1) (λ i. (sym x.0 i, x.1 i)) mine)
    (λ (x : (j ≢ id) × (get_elem? views j ≡ some u)). others j u x.0 x.1)
    (at_set views id j w u e)

others-set : {D E : Type 0} (now : Log D E) (owners : List ℕ) (views : List (View D E)) (id : ℕ) (w : View D E)
    → ((j : ℕ) → length views ≤ j → owned (seat_tag j) 0 owners now.entries ≡ []) → (j : ℕ) → length (set views id w) ≤ j → owned (seat_tag j) 0 owners now.entries ≡ []
others-set now owners views id w all j le = all j (omega (arith, length-set views id w))

-- the tags of seats are even and distinct, and those of reported accounts are odd and distinct
even-odd : (j k : ℕ) → j + j ≡ suc (k + k) → ⊥
even-odd j k e = absurd (omega arith)

twice : (j k : ℕ) → j + j ≡ k + k → j ≡ k
twice j k e = omega arith

twice-odd : (j k : ℕ) → suc (j + j) ≡ suc (k + k) → j ≡ k
twice-odd j k e = omega arith

double : (k : ℕ) → 0 + 0 ≡ k + k → k ≡ 0
double k e = omega arith

away-from : (j k n : ℕ) → k < n → n ≤ j → j + j ≡ k + k → ⊥
away-from j k n lt le e = absurd (omega arith)

number : {D E : Type 0} (h g : Log D E) → h ≡ g → 0 + length h.entries ≡ length g.entries
number {D = D} {E = E} h g e = omega (arith, ap (λ (x : Log D E). length x.entries) e)

module _ {S D E : Type 0} (log : S → Log D E) (fits : S → Type 0) (top : D) where
  abbrev pub Recorded : State S (View D E) → Type 0
  Recorded s = IsLock log fits top s.words s.homes s.views

  pub opens : (y : S) → fits y → log y ≡ start_of top → Recorded (opening (words_of 0) (y ∷ []) (newcomer (start_of top)))
  opens y fit same = record {
    now = start_of top;
    headed = refl;
    owners = [];
    long = refl;
    holder = none;
    seats = one;
    others = λ id le. refl;
    first = newcomer (start_of top);
    at_first = refl;
    reported = ((λ k. refl), (λ k a e. absurd (some-ne-none a (sym e))));
    counted = record { lead = refl; many = refl };
    lock = inl record { kept = y; mark = 0; small = omega arith; word = refl; home = refl; fitting = fit; same = same; nobody = refl };
  }
    where
      one : (id : ℕ) (v : View D E) → get_elem? (newcomer (start_of top) ∷ []) id ≡ some v → IsSeat (start_of top) [] none id v
      one zero v e = subst (IsSeat (start_of top) [] none 0) (some-injective (newcomer (start_of top)) v e) record { mine = refl; behind = λ _. beginning-self (start_of top); locks = λ h. absurd (off h); quiet = λ _. refl }
      one (suc id) v e = absurd (some-ne-none v (sym e))

  -- if only the lock changes, the rule still holds
  relock : (words words' : List ℕ) (homes homes' : List (Option S)) (views : List (View D E)) (b : IsLock log fits top words homes views)
      → IsFree log fits words' homes' b.now b.holder ⊎ IsTakenOut words' homes' → IsLock log fits top words' homes' views
  relock words words' homes homes' views b lock = record { now = b.now; headed = b.headed; owners = b.owners; long = b.long; holder = b.holder; seats = b.seats; others = b.others; first = b.first; at_first = b.at_first; reported = b.reported; counted = b.counted; lock = lock }

  -- if the view of a seat is replaced by itself, the rule still holds
  again : (words : List ℕ) (homes : List (Option S)) (views : List (View D E)) (id : ℕ) (v : View D E) → get_elem? views id ≡ some v → IsLock log fits top words homes views → IsLock log fits top words homes (set views id v)
  again words homes views id v at b = subst (λ l. IsLock log fits top words homes l) (sym (set_again views id v at)) b

  not-free : (s : State S (View D E)) (id : ℕ) (v : View D E) (b : Recorded s) → get_elem? s.views id ≡ some v → v.locks ≡ true → IsTakenOut s.words s.homes
  not-free s id v b at locks = ⊎_elim (λ (f : IsFree log fits s.words s.homes b.now b.holder). absurd (some-ne-none id (sym ((b.seats id v at).locks locks).0 ∙ f.nobody))) (λ (t : IsTakenOut s.words s.homes). t) b.lock

  -- the obligation of a step at the lock
  abbrev Owes : ℕ → Me S (View D E) → (ℕ → ℕ) → (ℕ → Me S (View D E) → Type 0) → List (View D E) → List ℕ → List (Option S) → Type 0
  Owes id me f then views words homes =
      (w : View D E) × (a : Act S) × Valid homes me.1 a × IsLock log fits top (set words 16 (f (slice_index words 16))) (homes_after homes me.1 a) (set views id w) × then (slice_index words 16) (w, carried_after me.1 a)

  -- `next` if the word is `current`, and otherwise the word itself
  abbrev swapped : ℕ → ℕ → ℕ → ℕ
  swapped current next n = either (n == current) next n

  abbrev Takes : Me S (View D E) → ℕ → ℕ → Me S (View D E) → Type 0
  Takes me current n w = MatchBool (n == current) (IsTaken log fits me w) (w ≡ me)

  -- if the word isn't `current`, nothing changes
  misses : (s : State S (View D E)) (id : ℕ) (me : Me S (View D E)) (m current next : ℕ) → Recorded s → get_elem? s.views id ≡ some me.0
      → s.words ≡ words_of m → m ≢ current → Owes id me (swapped current next) (Takes me current) s.views s.words s.homes
  misses s id me m current next b at word other =
      let no : (m == current) ≡ false = ne_eqb m current other in
      let kept : IsLock log fits top (words_of m) s.homes (set s.views id me.0) = subst (λ (ws : List ℕ). IsLock log fits top ws s.homes (set s.views id me.0)) word (again s.words s.homes s.views id me.0 at b) in
      subst (λ (ws : List ℕ). Owes id me (swapped current next) (Takes me current) s.views ws s.homes) (sym word) (
        me.0,
        keeps,
        tt,
        subst (λ (c : Bool). IsLock log fits top (words_of (either c next m)) s.homes (set s.views id me.0)) (sym no) kept,
        subst (λ (c : Bool). MatchBool c (IsTaken log fits me me) (me ≡ me)) (sym no) refl,
      )

  takes-free : (s : State S (View D E)) (id : ℕ) (me : Me S (View D E)) (current mark : ℕ) → IsIdle me → (b : Recorded s) → get_elem? s.views id ≡ some me.0
      → (f : IsFree log fits s.words s.homes b.now b.holder) → f.mark ≡ current → Owes id me (swapped current (suc (suc mark))) (Takes me current) s.views s.words s.homes
  takes-free s id me current mark idle b at f same =
      let h = log f.kept in
      let w = locked h me.0 in
      let q = first-stays s.views id b.first me.0 w b.at_first at refl refl refl b.counted in
      let yes : (f.mark == current) ≡ true = eq-eqb f.mark current same in
      let taken : IsLock log fits top (words_of (suc (suc mark))) (none ∷ []) (set s.views id w) = record {
        now = b.now;
        headed = b.headed;
        owners = b.owners;
        long = b.long;
        holder = some id;
        seats = seats-set b.now b.owners (some id) s.views id w
            (λ j u apart e. let k = b.seats j u e in record { mine = k.mine; behind = k.behind; locks = λ l. absurd (some-ne-none j (sym (k.locks l).0 ∙ f.nobody)); quiet = k.quiet })
            record { mine = (b.seats id me.0 at).mine; behind = λ _. subst (IsBeginning h) f.same (beginning-self h); locks = λ _. (refl, f.same); quiet = (b.seats id me.0 at).quiet };
        others = others-set b.now b.owners s.views id w b.others;
        first = q.0;
        at_first = q.1;
        reported = subst (AreReported b.now b.owners) (sym q.2) b.reported;
        counted = q.3;
        lock = inr record { mark = mark; word = refl; away = refl };
      } in
      let gets : IsTaken log fits me (w, (0, f.kept) ∷ me.1) = record {
        kept = f.kept;
        me = ap (λ (l : List (ℕ × S)). (w, (0, f.kept) ∷ l)) idle.hands;
        fitting = f.fitting;
        later = subst (IsBeginning me.0.own.seen) (sym f.same) ((b.seats id me.0 at).behind idle.live);
      } in
      subst (λ (x : List ℕ × List (Option S)). Owes id me (swapped current (suc (suc mark))) (Takes me current) s.views x.0 x.1) (λ i. (sym f.word i, sym f.home i)) (
        w,
        takes 0 f.kept,
        refl,
        subst (λ (c : Bool). IsLock log fits top (words_of (either c (suc (suc mark)) f.mark)) (none ∷ []) (set s.views id w)) (sym yes) taken,
        subst (λ (c : Bool). MatchBool c (IsTaken log fits me (w, (0, f.kept) ∷ me.1)) ((w, (0, f.kept) ∷ me.1) ≡ me)) (sym yes) gets,
      )

  not-current : (mark current : ℕ) → current < 2 → suc (suc mark) ≢ current
  not-current mark current free = λ e. absurd (omega arith)

  -- the lock is taken if its word is `current`, a word of a free lock
  pub takes_lock : (slots id : ℕ) (me : Me S (View D E)) (current next : ℕ) → current < 2 → 2 ≤ next → IsIdle me → Allows Recorded slots id me 16 (swapped current next) (Takes me current)
  takes_lock slots id me current (suc (suc mark)) free some_mark idle s b len at small = ⊎_elim
      (λ (f : IsFree log fits s.words s.homes b.now b.holder). dite (ℕ_discrete f.mark current) (takes-free s id me current mark idle b at f) (misses s id me f.mark current (suc (suc mark)) b at f.word))
      (λ (t : IsTakenOut s.words s.homes). misses s id me (suc (suc t.mark)) current (suc (suc mark)) b at t.word (not-current t.mark current free))
      b.lock
  takes_lock slots id me current _ free some_mark idle s b len at small = absurd (omega arith)

  -- ---- marking a taken lock
  marks-free : (s : State S (View D E)) (id : ℕ) (me : Me S (View D E)) (current next : ℕ) → 2 ≤ current → (b : Recorded s) → get_elem? s.views id ≡ some me.0
      → IsFree log fits s.words s.homes b.now b.holder → Owes id me (swapped current next) (λ _ w. w ≡ me) s.views s.words s.homes
  marks-free s id me current next taken b at f =
      let no : (f.mark == current) ≡ false = ne_eqb f.mark current (λ e. absurd (omega (arith, f.small, taken, e))) in
      let kept : IsLock log fits top (words_of f.mark) s.homes (set s.views id me.0) = subst (λ (ws : List ℕ). IsLock log fits top ws s.homes (set s.views id me.0)) f.word (again s.words s.homes s.views id me.0 at b) in
      subst (λ (ws : List ℕ). Owes id me (swapped current next) (λ _ w. w ≡ me) s.views ws s.homes) (sym f.word) (
        me.0,
        keeps,
        tt,
        subst (λ (c : Bool). IsLock log fits top (words_of (either c next f.mark)) s.homes (set s.views id me.0)) (sym no) kept,
        refl,
      )

  marks-away : (s : State S (View D E)) (id : ℕ) (me : Me S (View D E)) (current mark : ℕ) → (b : Recorded s) → get_elem? s.views id ≡ some me.0
      → IsTakenOut s.words s.homes → Owes id me (swapped current (suc (suc mark))) (λ _ w. w ≡ me) s.views s.words s.homes
  marks-away s id me current mark b at t =
      let kept = again s.words s.homes s.views id me.0 at b in
      subst (λ (x : List ℕ × List (Option S)). Owes id me (swapped current (suc (suc mark))) (λ _ w. w ≡ me) s.views x.0 x.1) (λ i. (sym t.word i, sym t.away i)) (
        me.0,
        keeps,
        tt,
        exchanged (suc (suc t.mark)) current (suc (suc mark)) (λ (n : ℕ). IsLock log fits top (words_of n) (none ∷ []) (set s.views id me.0))
            (λ _. relock s.words (words_of (suc (suc mark))) s.homes (none ∷ []) (set s.views id me.0) kept (inr record { mark = mark; word = refl; away = refl }))
            (λ _. relock s.words (words_of (suc (suc t.mark))) s.homes (none ∷ []) (set s.views id me.0) kept (inr record { mark = t.mark; word = refl; away = refl })),
        refl,
      )

  pub marks : (slots id : ℕ) (me : Me S (View D E)) (current next : ℕ) → 2 ≤ current → 2 ≤ next → Allows Recorded slots id me 16 (swapped current next) (λ _ w. w ≡ me)
  marks slots id me current (suc (suc mark)) taken some_mark s b len at small = ⊎_elim (marks-free s id me current (suc (suc mark)) taken b at) (marks-away s id me current mark b at) b.lock
  marks slots id me current _ taken some_mark s b len at small = absurd (omega arith)

  -- the protected data can be put back if the rest of the state is already as the rule demands
  puts-back : (s : State S (View D E)) (id : ℕ) (me : Me S (View D E)) (free : ℕ) (y : S) (w : View D E) (then : ℕ → Me S (View D E) → Type 0) → me.1 ≡ (0, y) ∷ [] → IsTakenOut s.words s.homes
      → IsLock log fits top (words_of free) (some y ∷ []) (set s.views id w) → ((n : ℕ) → then n (w, [])) → Owes id me (λ _. free) then s.views s.words s.homes
  puts-back s id me free y w then hands t after reported =
      let here : Owes id (me.0, (0, y) ∷ []) (λ _. free) then s.views (words_of (suc (suc t.mark))) (none ∷ []) = (w, gives, tt, after, reported (suc (suc t.mark))) in
      subst (λ (x : List ℕ × List (Option S) × List (ℕ × S)). Owes id (me.0, x.2) (λ _. free) then s.views x.0 x.1) (λ i. (sym t.word i, sym t.away i, sym hands i)) here

  -- the lock is released without an entry
  pub leaves : (slots id : ℕ) (me : Me S (View D E)) (free : ℕ) → free < 2 → HasLock log fits me me.0.own.seen → Allows Recorded slots id me 16 (λ _. free) (λ _ w. w ≡ (unlocked me.0, []))
  leaves slots id me free is_free turn s b len at small =
      let t = not-free s id me.0 b at turn.locks in
      let w = unlocked me.0 in
      let mine = b.seats id me.0 at in
      let had = mine.locks turn.locks in
      let q = first-stays s.views id b.first me.0 w b.at_first at refl refl refl b.counted in
      puts-back s id me free turn.kept w (λ _ x. x ≡ (w, [])) turn.hands t record {
        now = b.now;
        headed = b.headed;
        owners = b.owners;
        long = b.long;
        holder = none;
        seats = seats-set b.now b.owners none s.views id w
            (λ j u apart e. let k = b.seats j u e in record { mine = k.mine; behind = k.behind; locks = λ l. absurd (apart (some-injective j id (sym (k.locks l).0 ∙ had.0))); quiet = k.quiet })
            record { mine = mine.mine; behind = λ _. mine.behind turn.live; locks = λ l. absurd (off l); quiet = mine.quiet };
        others = others-set b.now b.owners s.views id w b.others;
        first = q.0;
        at_first = q.1;
        reported = subst (AreReported b.now b.owners) (sym q.2) b.reported;
        counted = q.3;
        lock = inl record { kept = turn.kept; mark = free; small = is_free; word = refl; home = refl; fitting = turn.fitting; same = turn.same ∙ had.1; nobody = refl };
      } (λ _. refl)

  -- the lock is released with this entry
  pub leaves_with : (slots id : ℕ) (me : Me S (View D E)) (e : E) (free : ℕ) → free < 2 → me.0.maker ≡ true → HasLock log fits me (with_entry me.0.own.seen e) → Allows Recorded slots id me 16 (λ _. free) (λ _ w. w ≡ (unlocked_with e me.0, []))
  leaves_with slots id me e free is_free maker turn s b len at small =
      let t = not-free s id me.0 b at turn.locks in
      let w = unlocked_with e me.0 in
      let mine = b.seats id me.0 at in
      let had = mine.locks turn.locks in
      let here = inside s.views id me.0 at in
      let now = with_entry b.now e in
      let owners = b.owners ++ seat_tag id ∷ [] in
      let later = beginning-with_entry b.now e in
      let q = first-stays s.views id b.first me.0 w b.at_first at refl refl refl b.counted in
      puts-back s id me free turn.kept w (λ _ x. x ≡ (w, [])) turn.hands t record {
        now = now;
        headed = b.headed;
        owners = owners;
        long = omega (arith, b.long, length-append b.owners (seat_tag id ∷ []), length-append b.now.entries (e ∷ []));
        holder = none;
        seats = seats-set now owners none s.views id w
            (λ j u apart there. let k = b.seats j u there in record {
              mine = owned-else (seat_tag j) 0 (seat_tag id) b.owners b.now.entries e (λ h. apart (sym (twice id j h))) b.long ∙ k.mine;
              behind = λ l. beginning-trans u.own.seen b.now now (k.behind l) later;
              locks = λ l. absurd (apart (some-injective j id (sym (k.locks l).0 ∙ had.0)));
              quiet = k.quiet;
            })
            record {
              mine = owned-here (seat_tag id) 0 b.owners b.now.entries e b.long ∙ (λ i. mine.mine i ++ (number b.now me.0.own.seen (sym had.1) i, e) ∷ []);
              behind = λ _. subst (λ h. IsBeginning (with_entry h e) now) (sym had.1) (beginning-self now);
              locks = λ l. absurd (off l);
              quiet = λ (no : me.0.maker ≡ false). absurd (true≢false (sym maker ∙ no));
            };
        others = λ j le. owned-else (seat_tag j) 0 (seat_tag id) b.owners b.now.entries e (λ h. away-from j id (length s.views) here (omega (arith, le, length-set s.views id w)) (sym h)) b.long ∙ b.others j (omega (arith, le, length-set s.views id w));
        first = q.0;
        at_first = q.1;
        reported = subst (AreReported now owners) (sym q.2) (
          (λ k. owned-else (reported_tag k) 0 (seat_tag id) b.owners b.now.entries e (λ h. even-odd id k h) b.long ∙ b.reported.0 k),
          (λ k a there. beginning-trans a.seen b.now now (b.reported.1 k a there) later),
        );
        counted = q.3;
        lock = inl record { kept = turn.kept; mark = free; small = is_free; word = refl; home = refl; fitting = turn.fitting; same = turn.same ∙ ap (λ h. with_entry h e) had.1; nobody = refl };
      } (λ _. refl)

  -- if the rule holds, it still holds with one more seat, which doesn't have the lock and has made nothing
  sits-at : (s : State S (View D E)) (b : Recorded s) (views : List (View D E)) (first w : View D E) → length views ≡ length s.views
      → ((j : ℕ) (u : View D E) → get_elem? views j ≡ some u → IsSeat b.now b.owners b.holder j u) → get_elem? views 0 ≡ some first → AreReported b.now b.owners first.reported → AreCounted (views ++ w ∷ []) first
      → w.locks ≡ false → w.own.made ≡ [] → IsBeginning w.own.seen b.now → IsLock log fits top s.words s.homes (views ++ w ∷ [])
  sits-at s b views first w long seats at_first reported counted locks none_made behind = record {
    now = b.now;
    headed = b.headed;
    owners = b.owners;
    long = b.long;
    holder = b.holder;
    seats = λ j u e. ⊎_elim
        (λ (was : get_elem? views j ≡ some u). seats j u was)
        (λ (is : (j ≡ length views) × (w ≡ u)). subst (IsSeat b.now b.owners b.holder j) is.1 record {
          mine = b.others j (omega (arith, long, is.0)) ∙ sym none_made;
          behind = λ _. behind;
          locks = λ l. absurd (true≢false (sym l ∙ locks));
          quiet = λ _. none_made;
        })
        (at_end views w u j e);
    others = λ j le. b.others j (omega (arith, le, long, length-append views (w ∷ [])));
    first = first;
    at_first = at_longer views (w ∷ []) 0 first at_first;
    reported = reported;
    counted = counted;
    lock = b.lock;
  }

  pub sits : (slots : ℕ) → Enters Recorded slots 16 (λ _ w. (◌≡◌ {A = Me S (View D E)} (w, []) (guest w.own.seen, [])) × (w.own.seen.head ≡ top))
  sits slots s b len small =
      let w = guest b.now in
      let many = b.counted.many in
      let counted : AreCounted (s.views ++ w ∷ []) b.first = record { lead = b.counted.lead; many = omega (arith, many, makers-end s.views w) } in
      (w, sits-at s b s.views b.first w refl b.seats b.at_first b.reported counted refl refl (beginning-self b.now), (refl, b.headed))

  issues-first : (v : View D E) → v.live ≡ true → Splits Recorded 0 v (issued_one v) (newcomer v.own.seen)
  issues-first v live s b at =
      let w = newcomer v.own.seen in
      let one = issued_one v in
      let views = set s.views 0 one in
      let mine = b.seats 0 v at in
      let same : b.first ≡ v = some-injective b.first v (sym b.at_first ∙ at) in
      let reported : AreReported b.now b.owners v.reported = subst (λ (u : View D E). AreReported b.now b.owners u.reported) same b.reported in
      let before : AreCounted s.views v = subst (AreCounted s.views) same b.counted in
      let many = before.many in
      let as-many = makers-set s.views 0 v one at refl in
      let counted : AreCounted (views ++ w ∷ []) one = record { lead = before.lead; many = omega (arith, many, as-many, makers-end views w) } in
      sits-at s b views one w (length-set s.views 0 one)
      (seats-set b.now b.owners b.holder s.views 0 one (λ j u _ e. b.seats j u e) record { mine = mine.mine; behind = mine.behind; locks = mine.locks; quiet = mine.quiet })
      (set_here s.views 0 one (inside s.views 0 v at)) reported counted refl refl (mine.behind live)

  pub issues : (id : ℕ) (v : View D E) → id ≡ 0 → v.live ≡ true → Splits Recorded id v (issued_one v) (newcomer v.own.seen)
  issues id v is_first live = subst (λ (i : ℕ). Splits Recorded i v (issued_one v) (newcomer v.own.seen)) (sym is_first) (issues-first v live)

  -- another seat reports to the first one
  reports-first : (d : D) (v : View D E) (other : ℕ) (w : View D E) → v.live ≡ true → w.live ≡ true → w.maker ≡ true → Joins Recorded 0 v other w (reported_of v w) (gone d)
  reports-first d v other w live live' maker s b at apart there =
      let both = reported_of v w in
      let one = set s.views 0 both in
      let same : b.first ≡ v = some-injective b.first v (sym b.at_first ∙ at) in
      let was : get_elem? s.views other ≡ some w = sym (set_else s.views 0 other both apart) ∙ there in
      let mine = b.seats 0 v at in
      let theirs = b.seats other w was in
      let n = length v.reported in
      let a = seat_tag other in
      let c = reported_tag n in
      let owners = map (renamed a c) b.owners in
      let reported : AreReported b.now b.owners v.reported = subst (λ (u : View D E). AreReported b.now b.owners u.reported) same b.reported in
      let lengths : length (set one other (gone d)) ≡ length s.views = length-set one other (gone d) ∙ length-set s.views 0 both in
      let inner = inside s.views other w was in record {
        now = b.now;
        headed = b.headed;
        owners = owners;
        long = length-map b.owners (renamed a c) ∙ b.long;
        holder = b.holder;
        seats = seats-set b.now owners b.holder one other (gone d)
            (λ j u away e. ⊎_elim
            (λ (x : (j ≡ 0) × (both ≡ u)). subst (λ (y : ℕ × View D E). IsSeat b.now owners b.holder y.0 y.1) (λ i. (sym x.0 i, x.1 i))
            record { mine = owned-renamed a c (seat_tag 0) 0 b.owners b.now.entries (λ h. apart (double other h)) (λ h. even-odd 0 n h) ∙ mine.mine; behind = mine.behind; locks = mine.locks; quiet = mine.quiet })
            (λ (x : (j ≢ 0) × (get_elem? s.views j ≡ some u)). let k = b.seats j u x.1 in
            record { mine = owned-renamed a c (seat_tag j) 0 b.owners b.now.entries (λ h. away (twice j other h)) (λ h. even-odd j n h) ∙ k.mine; behind = k.behind; locks = k.locks; quiet = k.quiet })
            (at_set s.views 0 j both u e))
            record { mine = owned-renamed-old a c 0 b.owners b.now.entries (λ h. even-odd other n h); behind = λ l. absurd (off l); locks = λ l. absurd (off l); quiet = λ _. refl };
        others = λ j le. owned-renamed a c (seat_tag j) 0 b.owners b.now.entries (λ h. away-from j other (length s.views) inner (omega (arith, le, lengths)) h) (λ h. even-odd j n h) ∙ b.others j (omega (arith, le, lengths));
        first = both;
        at_first = set_else one other 0 (gone d) (λ e. apart (sym e)) ∙ set_here s.views 0 both (inside s.views 0 v at);
        reported = (
          (λ k. dite (ℕ_discrete k n)
              (λ is. subst (λ (i : ℕ). owned (reported_tag i) 0 owners b.now.entries ≡ made_by (v.reported ++ w.own ∷ []) i) (sym is)
              (owned-renamed-new a c 0 b.owners b.now.entries (reported.0 n ∙ made_by-end v.reported) ∙ (theirs.mine ∙ sym (made_by-last v.reported w.own))))
              (λ ne. owned-renamed a c (reported_tag k) 0 b.owners b.now.entries (λ h. even-odd other k (sym h)) (λ h. ne (twice-odd k n h)) ∙ (reported.0 k ∙ sym (made_by-else v.reported w.own k ne)))),
          (λ k x e. ⊎_elim
              (λ (at_k : get_elem? v.reported k ≡ some x). reported.1 k x at_k)
              (λ (is : w.own ≡ x). subst (λ (y : Account D E). IsBeginning y.seen b.now) is (theirs.behind live'))
              (at_snoc v.reported w.own x k e)),
        );
        counted =
            let before : AreCounted s.views v = subst (AreCounted s.views) same b.counted in
            let many = before.many in
            let as-many = makers-set s.views 0 v both at refl in
            let fewer = makers-fewer one other w (gone d) there maker refl in
            record { lead = before.lead; many = omega (arith, many, as-many, fewer, length-append v.reported (w.own ∷ [])) };
        lock = b.lock;
      }

  pub reports : (d : D) (id : ℕ) (v : View D E) (other : ℕ) (w : View D E) → id ≡ 0 → v.live ≡ true → w.live ≡ true → w.maker ≡ true → Joins Recorded id v other w (reported_of v w) (gone d)
  reports d id v other w is_first live live' maker = subst (λ (i : ℕ). Joins Recorded i v other w (reported_of v w) (gone d)) (sym is_first) (reports-first d v other w live live' maker)

  word-stays : (s : State S (View D E)) (b : Recorded s) → set s.words 16 (slice_index s.words 16) ≡ s.words
  word-stays s b = ⊎_elim
      (λ (f : IsFree log fits s.words s.homes b.now b.holder). subst (λ (ws : List ℕ). set ws 16 (slice_index ws 16) ≡ ws) (sym f.word) refl)
      (λ (t : IsTakenOut s.words s.homes). subst (λ (ws : List ℕ). set ws 16 (slice_index ws 16) ≡ ws) (sym t.word) refl)
      b.lock

  -- if the first seat has made nothing, and all seats that it issued were joined to it, no seat owns anything
  no-seat-owns : (s : State S (View D E)) (b : Recorded s) (v : View D E) → get_elem? s.views 0 ≡ some v → AreCounted s.views v → v.own.made ≡ [] → v.own.issued ≤ length v.reported → NoSeatOwns b.now b.owners
  no-seat-owns s b v at counted idle back id =
      let many = counted.many in
      let one : makers_in s.views ≤ 1 = omega (arith, many, back) in
      dite (ℕ_discrete id 0)
      (λ (is : id ≡ 0). subst (λ (i : ℕ). owned (seat_tag i) 0 b.owners b.now.entries ≡ []) (sym is) ((b.seats 0 v at).mine ∙ idle))
      (λ (away : id ≢ 0). dite (dec_le (length s.views) id)
      (λ (past : length s.views ≤ id). b.others id past)
      (λ (no : length s.views ≤ id → ⊥). let u = seat-there s.views id (lt_of_not-le no) in let k = b.seats id u.0 u.1 in k.mine ∙ k.quiet (only-first s.views v id u.0 at counted.lead one away u.1)))

  accounts-first : (slots : ℕ) (me : Me S (View D E)) → me.0.locks ≡ true → Allows Recorded slots 0 me 16 (λ n. n) (λ _ w. (w ≡ me) × IsAccountedFor me.0)
  accounts-first slots me locks s b len at small =
      let same : b.first ≡ me.0 = some-injective b.first me.0 (sym b.at_first ∙ at) in
      let seen : b.now ≡ me.0.own.seen = sym ((b.seats 0 me.0 at).locks locks).1 in
      let reported : AreReported b.now b.owners me.0.reported = subst (λ (u : View D E). AreReported b.now b.owners u.reported) same b.reported in
      let counted : AreCounted s.views me.0 = subst (AreCounted s.views) same b.counted in
      let whole : me.0.own.made ≡ [] → me.0.own.issued ≤ length me.0.reported → NoSeatOwns b.now b.owners = λ idle back. no-seat-owns s b me.0 at counted idle back in (
        me.0,
        keeps,
        tt,
        subst (λ ws. IsLock log fits top ws s.homes (set s.views 0 me.0)) (sym (word-stays s b)) (again s.words s.homes s.views 0 me.0 at b),
        (refl, subst (λ h. (owners : List ℕ) × (length owners ≡ length h.entries) × AreReported h owners me.0.reported × (me.0.own.made ≡ [] → me.0.own.issued ≤ length me.0.reported → NoSeatOwns h owners)) seen (b.owners, b.long, reported, whole)),
      )

  pub accounts : (slots id : ℕ) (me : Me S (View D E)) → id ≡ 0 → me.0.locks ≡ true → Allows Recorded slots id me 16 (λ n. n) (λ _ w. (w ≡ me) × IsAccountedFor me.0)
  accounts slots id me is_first locks = subst (λ (i : ℕ). Allows Recorded slots i me 16 (λ n. n) (λ _ w. (w ≡ me) × IsAccountedFor me.0)) (sym is_first) (accounts-first slots me locks)
