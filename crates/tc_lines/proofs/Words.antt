-- The first word of octets: after the separators at the front, the octets before the next separator.
use Rattle.std.proofs.Common.{rules, ◌≡◌, ℕ, zero, suc, ◌<◌, ◌≤◌, Bool, true, false, not, cond, Some, None, List, [], ◌∷◌, length, take, drop, get_or, filter, refl, sym, ◌∙◌, ap, arith}
use Rattle.std.specs.List.{slice_split, onto_first, take_while}
use Rattle.std.proofs.lemmas.List.Splits.{slice_split-cons_yes, slice_split-cons_no}
use Rattle.std.proofs.lemmas.List.Sums.{take_while-cons}
use Rattle.memchr.specs.Find.{IsFirstByte, is_byte3}
use Rattle.tc_lines.specs.Word.{is_separator, is_filled, words}

pub words-separator : (x : ℕ) (xs : List ℕ) → is_separator x ≡ true → words (x ∷ xs) ≡ words xs
unfolding words
words-separator x xs e = ap (filter is_filled) (slice_split-cons_yes is_separator x xs e)

-- separators in front make no word
pub words-gap : (xs : List ℕ) → words (drop (length (take_while is_separator xs)) xs) ≡ words xs
words-gap [] = refl
words-gap (x ∷ xs) = rw take_while-cons (at (words-gap xs) (is_separator x) refl)
  where
    at : words (drop (length (take_while is_separator xs)) xs) ≡ words xs → (b : Bool) → is_separator x ≡ b → words (drop (length (cond b (x ∷ take_while is_separator xs) [])) (x ∷ xs)) ≡ words (x ∷ xs)
    at h true e = h ∙ sym (words-separator x xs e)
    at h false e = refl

abbrev pub is_inner : ℕ → Bool
is_inner octet = not (is_separator octet)

-- after the separators in front a word starts, unless nothing is left
pub word-starts : (xs : List ℕ) → 0 < length (drop (length (take_while is_separator xs)) xs)
    → 0 < length (take_while is_inner (drop (length (take_while is_separator xs)) xs))
word-starts [] = λ h. h
word-starts (x ∷ xs) = rw take_while-cons (at (word-starts xs) (is_separator x) refl)
  where
    at : (0 < length (drop (length (take_while is_separator xs)) xs) → 0 < length (take_while is_inner (drop (length (take_while is_separator xs)) xs)))
        → (b : Bool) → is_separator x ≡ b → 0 < length (drop (length (cond b (x ∷ take_while is_separator xs) [])) (x ∷ xs))
        → 0 < length (take_while is_inner (drop (length (cond b (x ∷ take_while is_separator xs) [])) (x ∷ xs)))
    at more true e h = more h
    at more false e h = rw (take_while-cons, e) (omega arith)

-- the first `n` octets are the first piece, and `rest` are the pieces in the octets after it
pub record HasFirst (xs : List ℕ) (n : ℕ) (rest : List (List ℕ)) : Type 0 where
  pub pieces : slice_split is_separator xs ≡ take n xs ∷ rest
  pub more : words (drop n xs) ≡ filter is_filled rest

pub first-piece : (xs : List ℕ) → (rest : List (List ℕ)) × HasFirst xs (length (take_while is_inner xs)) rest
unfolding words
first-piece [] = ([], record { pieces = refl; more = refl })
first-piece (x ∷ xs) = rw take_while-cons (at (is_separator x) refl (first-piece xs))
  where
    at : (b : Bool) → is_separator x ≡ b
        → (rest : List (List ℕ)) × HasFirst xs (length (take_while is_inner xs)) rest
        → (rest : List (List ℕ)) × HasFirst (x ∷ xs) (length (cond (not b) (x ∷ take_while is_inner xs) [])) rest
    at true e h = (
      slice_split is_separator xs,
      record {
        pieces = slice_split-cons_yes is_separator x xs e;
        more = words-separator x xs e;
      },
    )
    at false e h = (
      h.0,
      record {
        pieces = slice_split-cons_no is_separator x xs e ∙ ap (onto_first x) h.1.pieces;
        more = h.1.more;
      },
    )

pub filter-filled : (first : List ℕ) (rest : List (List ℕ)) → 0 < length first → filter is_filled (first ∷ rest) ≡ first ∷ filter is_filled rest
filter-filled [] rest h = absurd (omega arith)
filter-filled (x ∷ xs) rest h = refl

pub words-first : (xs : List ℕ) → 0 < length (take_while is_inner xs)
    → words xs ≡ take (length (take_while is_inner xs)) xs ∷ words (drop (length (take_while is_inner xs)) xs)
unfolding words
words-first xs h =
    let p = first-piece xs in
    let filled : 0 < length (take (length (take_while is_inner xs)) xs) = search (rules, h) in
    ap (filter is_filled) p.1.pieces ∙ filter-filled _ p.0 filled ∙ ap (λ w. take (length (take_while is_inner xs)) xs ∷ w) (sym p.1.more)

pub words-none : (xs : List ℕ) → length xs ≡ 0 → words xs ≡ []
unfolding words
words-none [] h = refl
words-none (x ∷ xs) h = absurd (omega arith)

-- the first word of octets is the octets between the separators in front and the next separator
pub words-split : (octets rest word after : List ℕ) (g n : ℕ)
    → g ≡ length (take_while is_separator octets) → rest ≡ drop g octets → 0 < length rest
    → n ≡ length (take_while is_inner rest) → word ≡ take n rest → after ≡ drop n rest
    → (0 < n) × (words octets ≡ word ∷ words after)
words-split octets rest word after g n eg er h en ew ea =
    let at : rest ≡ drop (length (take_while is_separator octets)) octets = rw eg at er in
    let starts : 0 < length (take_while is_inner rest) = rw at (word-starts octets (rw at at h)) in
    let gap : words octets ≡ words rest = sym (words-gap octets) ∙ sym (ap words at) in
    let first : words rest ≡ word ∷ words after = rw (ew, ea, en) (words-first rest starts) in
    (rw en starts, gap ∙ first)

false-of : (b : Bool) → (b ≡ true → ⊥) → b ≡ false
false-of true h = absurd (h refl)
false-of false _ = refl

-- The first `n` octets contain no separator. If a separator or the end follows them, exactly `n` octets are before the
-- first separator.
before-separator : (xs : List ℕ) (n : ℕ) → ((k : ℕ) → k < n → is_separator (get_or xs k 0) ≡ false) → n ≤ length xs → (n < length xs → is_separator (get_or xs n 0) ≡ true)
    → n ≡ length (take_while is_inner xs)
before-separator [] n inner within stops = omega (arith, within)
before-separator (x ∷ xs) zero inner within stops = rw (take_while-cons, stops (omega arith)) refl
before-separator (x ∷ xs) (suc n) inner within stops =
    rw (take_while-cons, inner 0 (omega arith))
    (ap suc (before-separator xs n (λ k lt. inner (suc k) (omega (arith, lt))) (omega (arith, within)) (λ lt. stops (omega (arith, lt)))))

-- if a separator is found first at place `n`, the word has `n` octets
pub word-to-separator : (xs : List ℕ) (n : ℕ) → IsFirstByte (is_byte3 32 9 13) xs (Some n) → n ≡ length (take_while is_inner xs)
word-to-separator xs n found =
    before-separator xs n (λ k lt. false-of _ (found.0.before k (omega arith) lt)) (omega (arith, found.0.high)) (λ lt. found.1)

-- if no separator is found, the word has all octets
pub last-word : (xs : List ℕ) → IsFirstByte (is_byte3 32 9 13) xs None → length xs ≡ length (take_while is_inner xs)
last-word xs none = before-separator xs (length xs) (λ k lt. false-of _ (none k (omega arith) lt)) (omega arith) (λ lt. absurd (omega (arith, lt)))
