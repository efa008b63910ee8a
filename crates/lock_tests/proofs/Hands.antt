-- A seat that has taken the lock of a book holds that lock, and still holds it after the book is replaced or written.
use Rattle.std.proofs.Common.{◌≡◌, ℕ, List, [], ◌∷◌, ◌++◌, sym, ap, ◌∙◌, get_or}
use Rattle.atomic_table.specs.Table.{Me, rest}
use Rattle.logged_lock.specs.declared.views.Log.{Log}
use Rattle.logged_lock.specs.declared.views.View.{View}
use Rattle.logged_lock.specs.Log.{with_entry}
use Rattle.logged_lock.specs.Rule.{IsTaken, HasLock}
use Rattle.lock_tests.specs.declared.book.Title.{Title}
use Rattle.lock_tests.specs.declared.book.Book.{Book}
use Rattle.lock_tests.specs.Book.{log_of, IsAny}

-- a seat that has taken the lock holds it
pub has_it : (before after : Me Book (View Title ℕ)) → IsTaken log_of IsAny before after → HasLock log_of IsAny after after.0.own.seen
has_it before after t = record {
  kept = t.kept;
  live = ap (λ (m : Me Book (View Title ℕ)). m.0.live) t.me;
  locks = ap (λ (m : Me Book (View Title ℕ)). m.0.locks) t.me;
  hands = ap (λ (m : Me Book (View Title ℕ)). m.1) t.me;
  fitting = t.fitting;
  same = sym (ap (λ (m : Me Book (View Title ℕ)). m.0.own.seen) t.me);
}

pub taken_out : (before after : Me Book (View Title ℕ)) → IsTaken log_of IsAny before after → (x : Book) × (after.1 ≡ (0, x) ∷ [])
taken_out before after t = (t.kept, ap (λ (m : Me Book (View Title ℕ)). m.1) t.me)

pub in_hands : (l : List (ℕ × Book)) (b : Book) → l ≡ (0, b) ∷ [] → l ≡ (0, b) ∷ rest l
in_hands l b h = h ∙ ap (λ (r : List (ℕ × Book)). (0, b) ∷ r) (sym (ap rest h))

same_book : (l : List (ℕ × Book)) (a b : Book) → l ≡ (0, a) ∷ [] → l ≡ (0, b) ∷ rest l → a ≡ b
same_book l a b p q = ap (λ (k : List (ℕ × Book)). (get_or k 0 (0, a)).1) (sym p ∙ q)

-- a seat still holds the lock if the book is replaced by another one with the same log
pub keeps : (v : View Title ℕ) (l : List (ℕ × Book)) (old new : Book) → HasLock log_of IsAny (v, l) v.own.seen → l ≡ (0, old) ∷ rest l → new.title ≡ old.title
    → new.numbers.items ≡ old.numbers.items → HasLock log_of IsAny (v, (0, new) ∷ rest l) v.own.seen
keeps v l old new h here title items = record {
  kept = new;
  live = h.live;
  locks = h.locks;
  hands = ap (λ (r : List (ℕ × Book)). (0, new) ∷ r) (ap rest h.hands);
  fitting = tt;
  same = (λ i. record { head = record { number = title i }; entries = items i }) ∙ (ap log_of (sym (same_book l h.kept old h.hands here)) ∙ h.same);
}

-- a seat still holds the lock if the book is replaced by one whose log has this number as one more entry
pub writes : (v : View Title ℕ) (l : List (ℕ × Book)) (old new : Book) (n p : ℕ) → HasLock log_of IsAny (v, l) v.own.seen → l ≡ (0, old) ∷ rest l → new.title ≡ old.title
    → new.numbers.items ≡ old.numbers.items ++ n ∷ [] → p ≡ n → HasLock log_of IsAny (v, (0, new) ∷ rest l) (with_entry v.own.seen p)
writes v l old new n p h here title items is = record {
  kept = new;
  live = h.live;
  locks = h.locks;
  hands = ap (λ (r : List (ℕ × Book)). (0, new) ∷ r) (ap rest h.hands);
  fitting = tt;
  same = (λ i. record { head = record { number = title i }; entries = items i })
      ∙ (ap (λ (b : Book). with_entry (log_of b) n) (sym (same_book l h.kept old h.hands here))
      ∙ (ap (λ (s : Log Title ℕ). with_entry s n) h.same ∙ ap (λ (m : ℕ). with_entry v.own.seen m) (sym is)));
}
