-- A block as a number, whose lowest octet is the block's first, and the block with one of its bits inverted.
use Rattle.std.proofs.Common.{◌≡◌, ◌≢◌, ℕ, zero, suc, ◌-◌, ◌/◌, ◌%◌, ◌^◌, ◌<◌, ◌≤◌, Bool, List, [], ◌∷◌, ◌++◌, Some, None, bit_xor, get_or, length, take, if◌then◌else◌, refl, ap, sym, ◌∙◌, arith, inl, inr}
use Rattle.std.proofs.lemmas.Bool.{ltb-true, ltb-false}
use Rattle.std.proofs.lemmas.Nat.{le_bytes_8, xor_mod, xor_shr}
use Rattle.std.specs.Int.{w64, from_le_bytes, to_le_bytes}
use Rattle.std.specs.Int.Bits.{xor_zero_l}
use Rattle.tc_link.proofs.Frames.{octets-append, octets-cons}
use Rattle.tc_edges.proofs.CltuLemmas.Names.{Correct, IsInformation, IsOctets, cases_lt, decoded, flipped, le-ltb, lt-ltb, xor_zero_r}
use Rattle.tc_edges.proofs.CltuLemmas.Distance.{error, is-placed, number-of, placed, placed-is}
use Rattle.tc_edges.proofs.CltuLemmas.Patterns.{xors, zeros}
use Rattle.tc_edges.proofs.CltuLemmas.Taking.{block-length, eight_list, more-wrong, one-wrong, syndrome, turned-length, turned-octets, turned-past}

octet-sum : (a b k : ℕ) → bit_xor a b / 2 ^ k % 256 ≡ bit_xor (a / 2 ^ k % 256) (b / 2 ^ k % 256)
octet-sum a b k = ap (λ (x : ℕ). x % 256) (xor_shr a b k) ∙ xor_mod (a / 2 ^ k) (b / 2 ^ k) 8

sum : (a b : ℕ) → to_le_bytes w64 (bit_xor a b) ≡ xors (to_le_bytes w64 a) (to_le_bytes w64 b)
unfolding xors
sum a b =
    rw (xor_mod a b 8, octet-sum a b 8, octet-sum a b 16, octet-sum a b 24, octet-sum a b 32, octet-sum a b 40, octet-sum a b 48, octet-sum a b 56) refl

-- Adding zeros changes no octet, and adding a single bit inverts that bit. Both lemmas are about the front `os` of a
-- list.
none-turned : (os ps : List ℕ) (n : ℕ) → length os ≤ n → take (length os) (xors (os ++ ps) (zeros n)) ≡ os
unfolding xors
none-turned [] ps n less = refl
none-turned (o ∷ os) ps zero less = absurd (omega arith)
none-turned (o ∷ os) ps (suc n) less = ap (λ (x : ℕ). x ∷ take (length os) (xors (os ++ ps) (zeros n))) (xor_zero_r o) ∙ ap (λ (x : List ℕ). o ∷ x) (none-turned os ps n (omega arith))

one-turned : (os ps : List ℕ) (n k : ℕ) → length os ≤ n → take (length os) (xors (os ++ ps) (flipped (zeros n) k)) ≡ flipped os k
unfolding xors
one-turned [] ps n k less = refl
one-turned (o ∷ os) ps zero k less = absurd (omega arith)
one-turned (o ∷ os) ps (suc n) k less =
    let put = λ (t : Bool). take (suc (length os)) (xors (o ∷ os ++ ps) (if t then bit_xor 0 (2 ^ (7 - k)) ∷ zeros n else 0 ∷ flipped (zeros n) (k - 8))) in
    let is = λ (t : Bool). if t then bit_xor o (2 ^ (7 - k)) ∷ os else o ∷ flipped os (k - 8) in
    elim (cases_lt k 8) [
      | inl low ↦
          ap put (lt-ltb k 8 low) ∙ ap (λ (x : ℕ). bit_xor o x ∷ take (length os) (xors (os ++ ps) (zeros n))) (xor_zero_l (2 ^ (7 - k)))
          ∙ ap (λ (x : List ℕ). bit_xor o (2 ^ (7 - k)) ∷ x) (none-turned os ps n (omega arith)) ∙ sym (ap is (lt-ltb k 8 low))
      | inr high ↦
          ap put (le-ltb k 8 high) ∙ ap (λ (x : ℕ). x ∷ take (length os) (xors (os ++ ps) (flipped (zeros n) (k - 8)))) (xor_zero_r o)
          ∙ ap (λ (x : List ℕ). o ∷ x) (one-turned os ps n (k - 8) (omega arith)) ∙ sym (ap is (le-ltb k 8 high))
    ]

zero-octets : (n : ℕ) → IsOctets (zeros n)
zero-octets zero i = omega arith
zero-octets (suc n) zero = omega arith
zero-octets (suc n) (suc i) = zero-octets n i

-- the first seven octets of a block in which the bits that are set in the number `e` were inverted
abbrev pub by_number : List ℕ → ℕ → ℕ → List ℕ
by_number own last e = take 7 (to_le_bytes w64 (bit_xor (from_le_bytes w64 (own ++ last ∷ [])) e))

turned-by : (own : List ℕ) (last k e : ℕ) → IsInformation own → last < 256 → e ≡ from_le_bytes w64 (flipped (zeros 8) k) → by_number own last e ≡ flipped own k
turned-by own last k e is fits number =
    let octets = le_bytes_8 (own ++ last ∷ []) _ (block-length own last is.seven) (octets-append own (last ∷ []) is.each (octets-cons last [] fits (zero-octets 0))) refl in
    let one : to_le_bytes w64 e ≡ flipped (zeros 8) k = le_bytes_8 (flipped (zeros 8) k) e (turned-length (zeros 8) k) (turned-octets (zeros 8) k (zero-octets 8)) number in
    ap (take 7) (sum (from_le_bytes w64 (own ++ last ∷ [])) e ∙ ap (λ (x : List ℕ). xors x (to_le_bytes w64 e)) octets ∙ ap (xors (own ++ last ∷ [])) one)
    ∙ ap (λ (n : ℕ). take n (xors (own ++ last ∷ []) (flipped (zeros 8) k))) (sym is.seven) ∙ one-turned own (last ∷ []) 8 k (omega (arith, is.seven))

pub by-none : (own : List ℕ) (last : ℕ) → IsInformation own → last < 256 → by_number own last 0 ≡ own
by-none own last is fits = turned-by own last 64 0 is fits refl ∙ turned-past own 64 (omega (arith, is.seven))

pub wrong-number : (own : List ℕ) (last : ℕ) → IsInformation own → last < 256 → syndrome own last < 128 → error (syndrome own last) ≢ 0
    → decoded Correct (own ++ last ∷ []) ≡ Some (by_number own last (error (syndrome own last)))
wrong-number own last is fits small some =
    let s = syndrome own last in
    let less : placed s < 63 = ltb-true (placed s) 63 (is-placed s small ∙ lt-ltb 0 (error s) (omega arith)) in
    one-wrong own last is fits small less
    ∙ ap (λ (x : List ℕ). Some x) (sym (turned-by own last (placed s) (error s) is fits (ap error (sym (placed-is s small less)) ∙ number-of (placed s) less)))

pub no-number : (own : List ℕ) (last : ℕ) → IsInformation own → last < 256 → syndrome own last < 128 → syndrome own last ≢ 0 → error (syndrome own last) ≡ 0
    → decoded Correct (own ++ last ∷ []) ≡ None
no-number own last is fits small wrong none =
    let s = syndrome own last in
    more-wrong own last is fits wrong (ltb-false (placed s) 63 (is-placed s small ∙ le-ltb 0 (error s) (omega arith)))

-- the first seven octets of a list, in the form in which the code takes them from the number
abbrev pub seven_of : List ℕ → List ℕ
seven_of r = get_or r 0 0 ∷ get_or r 1 0 ∷ get_or r 2 0 ∷ get_or r 3 0 ∷ get_or r 4 0 ∷ get_or r 5 0 ∷ get_or r 6 0 ∷ []

pub parts : (r block : List ℕ) → length block ≡ 8 → r ≡ block → seven_of r ++ get_or r 7 0 ∷ [] ≡ block
parts r block l h = sym (eight_list r (ap length h ∙ l)) ∙ h

pub seven-first : (r : List ℕ) → length r ≡ 8 → seven_of r ≡ take 7 r
seven-first (a ∷ b ∷ c ∷ d ∷ e ∷ f ∷ g ∷ h ∷ []) l = refl
seven-first _ l = absurd (omega arith)
