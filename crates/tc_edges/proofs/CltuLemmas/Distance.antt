-- Code blocks differ in at least four places.
use Rattle.std.proofs.Common.{◌≡◌, ℕ, ◌^◌, ◌/◌, ◌*◌, zero, suc, ◌+◌, ◌%◌, ◌<◌, ◌≤◌, Bool, true, eqb, List, [], ◌∷◌, ◌++◌, bit_xor, length, get_or, take, nat_lt, if◌then◌else◌, length-append, subst, refl, ap, sym, ◌∙◌, arith, inl, inr}
use Rattle.std.proofs.lemmas.Bool.{eqb-true, agree_below_at, cases_eq, lt-ltb}
use Rattle.tc_edges.proofs.CltuLemmas.Names.{IsInformation, bit_at, bits-same, bits_of, block_remainder, block_times_x, block_with_bit, code_block, differences, errors, flipped, octet_bits, same, same_below, take_at, word, xor_lt, xor_self, xor_zero_r}
use Rattle.std.specs.Int.{w64, from_le_bytes, to_le_bytes}
use Rattle.tc_edges.specs.declared.cltu.tables.TheConstants.{ERRORS}
use Rattle.tc_edges.proofs.CltuLemmas.Division.{times_x-fits, remainder-fits}
use Rattle.tc_edges.proofs.CltuLemmas.Patterns.{AreBits, xors, weight, zeros, single, xors-bits, xors-length, zeros-bits, zeros-weight, two-is, differences-weight, none-same, by-way, single-length}
use Rattle.tc_edges.proofs.CltuLemmas.Words.{are-bits, bits-append, fifty-six, left, left-linear, block-left, seven, seven-bits, word-is, word-parts}

-- ---- words that leave no remainder have an even number of ones
unfoldable pub parity : ℕ → ℕ
parity y = (bit_at y 6 + bit_at y 5 + bit_at y 4 + bit_at y 3 + bit_at y 2 + bit_at y 1 + bit_at y 0) % 2

kept : (y : ℕ) → y < 128 → parity (block_times_x y) ≡ parity y
unfolding parity block_times_x
kept = same_below (λ y. parity (block_times_x y)) parity 128 refl

turns : (y : ℕ) → y < 128 → parity (bit_xor y 64) ≡ (parity y + 1) % 2
unfolding parity
turns = same_below (λ y. parity (bit_xor y 64)) (λ y. (parity y + 1) % 2) 128 refl

parity-low : (y : ℕ) → parity y < 2
unfolding parity
parity-low y = omega arith

with-one : (y b : ℕ) → y < 128 → b < 2 → parity (bit_xor y (b * 2 ^ 6)) ≡ (parity y + b) % 2
with-one y zero fits less = let low = parity-low y in ap parity (xor_zero_r y) ∙ omega arith
with-one y (suc zero) fits less = turns y fits
with-one y (suc (suc b)) fits less = absurd (omega arith)

counted : (bs : List ℕ) (r : ℕ) → AreBits bs → r < 128 → parity (block_remainder r bs) ≡ (parity r + weight bs) % 2
unfolding weight
counted [] r p fits = let low = parity-low r in omega arith
counted (b ∷ bs) r p fits =
    let b_fits = p.0 in
    let one : parity (block_with_bit r b) ≡ (parity r + b) % 2 = kept (bit_xor r (b * 2 ^ 6)) (xor_lt 7 r (b * 2 ^ 6) fits (omega arith)) ∙ with-one r b fits b_fits in
    let rest = counted bs (block_with_bit r b) p.1 (times_x-fits _) in
    omega arith

parity-none : parity 0 ≡ 0
unfolding parity
parity-none = refl

left-even : (e : List ℕ) → AreBits e → left e ≡ 0 → weight e % 2 ≡ 0
unfolding left
left-even e bits none =
    let a = counted e 0 bits (omega arith) in
    let b = counted (zeros 56) (block_remainder 0 e) (zeros-bits 56) (remainder-fits e 0 (omega arith)) in
    let zero_weight = zeros-weight 56 in let start = parity-none in
    let end : parity (block_remainder (block_remainder 0 e) (zeros 56)) ≡ 0 = ap parity none ∙ parity-none in
    omega arith

-- ---- each single error leaves a remainder of its own
abbrev pub error : ℕ → ℕ
error s = get_or ERRORS s 0

abbrev first_one : List ℕ → ℕ
first_one [] = 0
first_one (zero ∷ bs) = suc (first_one bs)
first_one (suc b ∷ bs) = 0

-- the place of the single 1 bit in the error, or 63 if there is none
unfoldable pub placed : ℕ → ℕ
placed s = first_one (word (to_le_bytes w64 (error s)))

pub place-of : (k : ℕ) → k < 63 → placed (left (single k 63)) ≡ k
unfolding placed octet_bits left single block_times_x
place-of = same_below (λ k. placed (left (single k 63))) (λ k. k) 63 refl

-- if the error has a 1 bit, a word with this bit alone leaves the remainder `s`
right_place : ℕ → Bool
right_place s = if nat_lt (placed s) 63 then eqb (left (single (placed s) 63)) s else true

rights : (s : ℕ) → s < 128 → right_place s ≡ true
unfolding right_place placed octet_bits left single block_times_x
rights s less = agree_below_at right_place (λ _. true) 128 s refl less

pub placed-is : (s : ℕ) → s < 128 → placed s < 63 → left (single (placed s) 63) ≡ s
unfolding right_place
placed-is s fits less =
    eqb-true _ _ (sym (ap (λ (t : Bool). if t then eqb (left (single (placed s) 63)) s else true) (lt-ltb (placed s) 63 less)) ∙ rights s fits)

pub number-of : (k : ℕ) → k < 63 → error (left (single k 63)) ≡ from_le_bytes w64 (flipped (zeros 8) k)
unfolding left single block_times_x
number-of = same_below (λ k. error (left (single k 63))) (λ k. from_le_bytes w64 (flipped (zeros 8) k)) 63 refl

pub is-placed : (s : ℕ) → s < 128 → nat_lt (placed s) 63 ≡ nat_lt 0 (error s)
unfolding placed octet_bits
is-placed s less = agree_below_at (λ s. nat_lt (placed s) 63) (λ s. nat_lt 0 (error s)) 128 s refl less

-- ---- words
word-length : (a b c d e f g h : ℕ) → length (word (a ∷ b ∷ c ∷ d ∷ e ∷ f ∷ g ∷ h ∷ [])) ≡ 63
unfolding octet_bits
word-length a b c d e f g h = refl

word-are : (a b c d e f g h : ℕ) → AreBits (word (a ∷ b ∷ c ∷ d ∷ e ∷ f ∷ g ∷ h ∷ []))
word-are a b c d e f g h =
    subst AreBits (sym (word-is a b c d e f g h)) (bits-append (bits_of (a ∷ b ∷ c ∷ d ∷ e ∷ f ∷ g ∷ [])) (seven (h / 2)) (are-bits (a ∷ b ∷ c ∷ d ∷ e ∷ f ∷ g ∷ [])) (seven-bits (h / 2)))

pub word-bits : (block : List ℕ) → length block ≡ 8 → (length (word block) ≡ 63) × AreBits (word block)
word-bits (a ∷ b ∷ c ∷ d ∷ e ∷ f ∷ g ∷ h ∷ []) l = (word-length a b c d e f g h, word-are a b c d e f g h)
word-bits _ l = absurd (omega arith)

-- two words that leave equal remainders, and differ in at most three places, are equal
near-words : (v w : List ℕ) → length v ≡ 63 → length w ≡ 63 → AreBits v → AreBits w → left v ≡ left w → differences v w ≤ 3 → v ≡ w
near-words v w lv lw pv pw alike few =
    let e = xors v w in
    let e_long : length e ≡ 63 = xors-length v w (lv ∙ sym lw) ∙ lv in
    let e_bits = xors-bits v w pv pw in
    let d : differences v w ≡ weight e = differences-weight v w pv pw in
    let none : left e ≡ 0 = left-linear v w (lv ∙ sym lw) ∙ ap (λ (x : ℕ). bit_xor x (left w)) alike ∙ xor_self (left w) in
    let even = left-even e e_bits none in
    elim (cases_eq (weight e) 2) [
      | inl two ↦
          let t = two-is e e_bits two in
          let i = t.0 in let j = t.1 in
          let shape : e ≡ xors (single i 63) (single j 63) = t.4 ∙ ap (λ (n : ℕ). xors (single i n) (single j n)) e_long in
          let i_less : i < 63 = let a = t.2 in let b = t.3 in omega arith in
          let j_less : j < 63 = let b = t.3 in omega arith in
          let sum : bit_xor (left (single i 63)) (left (single j 63)) ≡ 0 =
          sym (left-linear (single i 63) (single j 63) (single-length i 63 ∙ sym (single-length j 63))) ∙ ap left (sym shape) ∙ none in
          let alike_left : left (single i 63) ≡ left (single j 63) = same (left (single i 63)) (left (single j 63)) sum in
          let is : i ≡ j = sym (place-of i i_less) ∙ ap (λ (s : ℕ). placed s) alike_left ∙ place-of j j_less in
          let a = t.2 in absurd (omega arith)
      | inr other ↦ none-same v w (lv ∙ sym lw) pv pw (omega arith)
    ]

-- blocks with equal words carry equal octets
words-same : (one other : List ℕ) (o p : ℕ) → IsInformation one → IsInformation other → word (one ++ o ∷ []) ≡ word (other ++ p ∷ []) → one ≡ other
words-same one other o p is is' h =
    bits-same one other is.each is'.each (is.seven ∙ sym is'.seven) (sym (take_at (bits_of one) (seven (o / 2)) 56 (fifty-six one is.seven))
    ∙ ap (take 56) (sym (word-parts one o is.seven) ∙ h ∙ word-parts other p is'.seven) ∙ take_at (bits_of other) (seven (p / 2)) 56 (fifty-six other is'.seven))

pub code-length : (information : List ℕ) → IsInformation information → length (code_block information) ≡ 8
code-length information is = let l = is.seven in length-append information _ ∙ omega arith

pub far : (one other : List ℕ) → IsInformation one → IsInformation other → differences (word (code_block one)) (word (code_block other)) ≤ 3 → one ≡ other
far one other is is' few =
    let a = word-bits (code_block one) (code-length one is) in let b = word-bits (code_block other) (code-length other is') in
    words-same one other _ _ is is'
    (near-words (word (code_block one)) (word (code_block other)) a.0 b.0 a.1 b.1 (block-left one is.seven ∙ sym (block-left other is'.seven)) few)

-- two code blocks carry equal octets, if the numbers of places in which a block differs from each of them add up to at most 3
pub between : (block one other : List ℕ) → length block ≡ 8 → IsInformation one → IsInformation other → errors block one + errors block other ≤ 3 → one ≡ other
between block one other l is is' few =
    let a = word-bits (code_block one) (code-length one is) in let b = word-bits (code_block other) (code-length other is') in let c = word-bits block l in
    let w = by-way (word (code_block one)) (word block) (word (code_block other)) (a.0 ∙ sym c.0) (c.0 ∙ sym b.0) a.1 c.1 b.1 in
    far one other is is' (omega arith)
