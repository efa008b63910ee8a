-- Each kind of step at a board keeps its rule.
use Rattle.std.proofs.Common.{◌≡◌, ◌≢◌, ℕ, zero, suc, List, [], ◌∷◌, ◌++◌, set, true, true≢false, refl, sym, ap, ◌∙◌, subst, ⊎_elim}
use Rattle.std.specs.Prelude.{slice_index}
use mathlib.Core.Option.{some, some-ne-none, some-injective}
use lib.ListN.{get_elem?}
use Rattle.atomic_table.specs.Table.{State, Me, keeps, Allows, Splits, Joins, opening}
use Rattle.atomic_table.proofs.Lists.{at_set, at_snoc, at_longer, set_again, set_else}
use Rattle.tc_queues.specs.Settings.{IsAllowed}
use Rattle.tc_channel.specs.Journal.{History}
use Rattle.tc_channel.specs.Run.{IsLawful}
use Rattle.tc_status.specs.declared.board.View.{View}
use Rattle.tc_status.specs.Board.{IsEarlier, status_word, view, spent, with_reported, IsBehind, IsBoard, IsRead, IsCompared}
use Rattle.tc_status.proofs.Beginnings.{beginning-self, beginning-trans}

abbrev pub Kept : State (Unit {0}) View → Type 0
Kept s = IsBoard s.words s.views

set-there : (l : List View) (i : ℕ) (a b : View) → get_elem? l i ≡ some a → get_elem? (set l i b) i ≡ some b
set-there [] i a b e = absurd (some-ne-none a (sym e))
set-there (x ∷ xs) zero a b e = refl
set-there (x ∷ xs) (suc i) a b e = set-there xs i a b e

-- The first seat keeps its history if the view of any seat is replaced by a live view that has seen this history.
first-stays : (views : List View) (id : ℕ) (p w : View) → get_elem? views 0 ≡ some p → p.live ≡ true → w.live ≡ true → w.seen ≡ p.seen → (q : View) × (get_elem? (set views id w) 0 ≡ some q) × (q.live ≡ true) × (q.seen ≡ p.seen)
first-stays [] id p w at live live' same = absurd (some-ne-none p (sym at))
first-stays (x ∷ xs) zero p w at live live' same = (w, refl, live', same)
first-stays (x ∷ xs) (suc id) p w at live live' same = (p, at, live, refl)

behind-later : (p h : History) (v : View) → IsEarlier p h → IsBehind p v → IsBehind h v
behind-later p h v later behind = λ live. let b = behind live in (beginning-trans v.seen p h b.0 later, beginning-trans v.reported p h b.1 later)

behind-self : (h : History) → IsBehind h (view h)
behind-self h = λ _. (beginning-self h, beginning-self h)

all-behind-set : (h : History) (views : List View) (id : ℕ) (w : View) → ((j : ℕ) (u : View) → get_elem? views j ≡ some u → IsBehind h u) → IsBehind h w → (j : ℕ) (u : View) → get_elem? (set views id w) j ≡ some u → IsBehind h u
all-behind-set h views id w all mine j u e =
    ⊎_elim
    (λ (x : (j ≡ id) × (w ≡ u)). subst (IsBehind h) x.1 mine)
    (λ (x : (j ≢ id) × (get_elem? views j ≡ some u)). all j u x.1)
    (at_set views id j w u e)

pub opens : (word : ℕ) (h : History) → word ≡ status_word h → IsAllowed h.settings → IsLawful h.settings h.journal → Kept (opening (word ∷ []) [] (view h))
opens word h is allowed law = record {
  publisher = view h;
  first = refl;
  live = refl;
  allowed = allowed;
  lawful = law;
  word = ap (λ n. n ∷ []) is;
  behind = one;
}
  where
    one : (id : ℕ) (v : View) → get_elem? (view h ∷ []) id ≡ some v → IsBehind h v
    one zero v e = subst (IsBehind h) (some-injective (view h) v e) (behind-self h)
    one (suc id) v e = absurd (some-ne-none v (sym e))

-- storing the word of a history publishes the history
pub publishes : (slots id : ℕ) (me : Me (Unit {0}) View) (h : History) (word : ℕ) → id ≡ 0 → word ≡ status_word h → IsLawful h.settings h.journal → IsEarlier me.0.seen h
    → Allows Kept slots id me 0 (λ _. word) (λ _ w. w ≡ (view h, me.1))
publishes slots id me h word is_first is law later = rw is_first (λ s b len at small.
    let same : b.publisher ≡ me.0 = some-injective b.publisher me.0 (sym b.first ∙ at) in
    let later' : IsEarlier b.publisher.seen h = subst (λ (v : View). IsEarlier v.seen h) (sym same) later in (
      view h,
      keeps,
      tt,
      record {
        publisher = view h;
        first = set-there s.views 0 me.0 (view h) at;
        live = refl;
        allowed = subst IsAllowed (sym later'.0) b.allowed;
        lawful = law;
        word = ap (λ ws. set ws 0 word) b.word ∙ ap (λ n. n ∷ []) is;
        behind = all-behind-set h s.views 0 (view h) (λ j u e. behind-later b.publisher.seen h u later' (b.behind j u e)) (behind-self h);
      },
      refl,
    ))

pub splits : (id : ℕ) (v : View) → Splits Kept id v v v
splits id v s b at =
    let same = set_again s.views id v at in record {
      publisher = b.publisher;
      first = ap (λ l. get_elem? (l ++ v ∷ []) 0) same ∙ at_longer s.views (v ∷ []) 0 b.publisher b.first;
      live = b.live;
      allowed = b.allowed;
      lawful = b.lawful;
      word = b.word;
      behind = λ j u e. ⊎_elim
          (λ (was : get_elem? (set s.views id v) j ≡ some u). b.behind j u (subst (λ (l : List View). get_elem? l j ≡ some u) same was))
          (λ (is : v ≡ u). subst (IsBehind b.publisher.seen) is (b.behind id v at))
          (at_snoc (set s.views id v) v u j e);
    }

-- the rule still holds after a load, which gives the seat the view of the published history
loads : (s : State (Unit {0}) View) (id : ℕ) (b : Kept s) → IsBoard (set s.words 0 (slice_index s.words 0)) (set s.views id (view b.publisher.seen))
loads s id b =
    let h : History = b.publisher.seen in
    let q = first-stays s.views id b.publisher (view h) b.first b.live refl refl in
    let same : h ≡ q.0.seen = sym q.3 in
    let words : set s.words 0 (slice_index s.words 0) ≡ status_word h ∷ [] = ap (λ ws. set ws 0 (slice_index ws 0)) b.word in record {
      publisher = q.0;
      first = q.1;
      live = q.2;
      allowed = subst (λ (r : History). IsAllowed r.settings) same b.allowed;
      lawful = subst (λ (r : History). IsLawful r.settings r.journal) same b.lawful;
      word = words ∙ ap (λ (r : History). status_word r ∷ []) same;
      behind = subst (λ (r : History). (j : ℕ) (u : View) → get_elem? (set s.views id (view h)) j ≡ some u → IsBehind r u) same (all-behind-set h s.views id (view h) b.behind (behind-self h));
    }

pub reads : (slots id : ℕ) (me : Me (Unit {0}) View) → me.0.live ≡ true → Allows Kept slots id me 0 (λ n. n) (IsRead me)
reads slots id me live s b len at small =
    let found : slice_index s.words 0 ≡ status_word b.publisher.seen = ap (λ ws. slice_index ws 0) b.word in (
      view b.publisher.seen,
      keeps,
      tt,
      loads s id b,
      record {
        seat = refl;
        allowed = b.allowed;
        lawful = b.lawful;
        word = found;
        later = (b.behind id me.0 at live).0;
      },
    )

pub joins : (id : ℕ) (v : View) (other : ℕ) (w : View) → id ≡ 0 → v.live ≡ true → w.live ≡ true → Joins Kept id v other w (with_reported v w) spent
joins id v other w is_first live live' = rw is_first (λ s b at apart there.
    let both = with_reported v w in
    let same : b.publisher ≡ v = some-injective b.publisher v (sym b.first ∙ at) in
    let seen : b.publisher.seen ≡ v.seen = ap (λ (x : View). x.seen) same in
    let mine = b.behind 0 v at live in
    let theirs = ⊎_elim (λ (t : (other ≡ 0) × (both ≡ w)). absurd (apart t.0)) (λ (t : (other ≢ 0) × (get_elem? s.views other ≡ some w)). b.behind other w t.1 live') (at_set s.views 0 other both w there) in
    let behind : (j : ℕ) (u : View) → get_elem? (set (set s.views 0 both) other spent) j ≡ some u → IsBehind b.publisher.seen u =
    all-behind-set b.publisher.seen (set s.views 0 both) other spent (all-behind-set b.publisher.seen s.views 0 both b.behind (λ _. (mine.0, theirs.0))) (λ e. absurd (true≢false (sym e))) in record {
      publisher = both;
      first = set_else (set s.views 0 both) other 0 spent (λ e. apart (sym e)) ∙ set-there s.views 0 v both at;
      live = live;
      allowed = subst (λ (r : History). IsAllowed r.settings) seen b.allowed;
      lawful = subst (λ (r : History). IsLawful r.settings r.journal) seen b.lawful;
      word = b.word ∙ ap (λ (r : History). status_word r ∷ []) seen;
      behind = subst (λ (r : History). (j : ℕ) (u : View) → get_elem? (set (set s.views 0 both) other spent) j ≡ some u → IsBehind r u) seen behind;
    })

pub compares : (slots id : ℕ) (me : Me (Unit {0}) View) → id ≡ 0 → me.0.live ≡ true → Allows Kept slots id me 0 (λ n. n) (λ _ w. IsCompared me w)
compares slots id me is_first live = rw is_first (λ s b len at small.
    let same : b.publisher.seen ≡ me.0.seen = ap (λ (x : View). x.seen) (some-injective b.publisher me.0 (sym b.first ∙ at)) in (
      view b.publisher.seen,
      keeps,
      tt,
      loads s 0 b,
      record {
        seat = ap (λ h. (view h, me.1)) same;
        later = subst (λ (h : History). IsEarlier me.0.reported h) same (b.behind 0 me.0 at live).1;
      },
    ))
