-- Blocks as words of 63 bits, and the remainders that they leave when divided by the generator.
use Rattle.std.proofs.Common.{◌≡◌, ℕ, zero, suc, ◌+◌, ◌-◌, ◌*◌, ◌/◌, ◌^◌, ◌<◌, ◌≤◌, Bool, List, [], ◌∷◌, ◌++◌, bit_xor, length, take, if◌then◌else◌, length-append, refl, ap, sym, ◌∙◌, arith, inl, inr}
use Rattle.std.proofs.lemmas.List.{replicate-append-replicate}
use Rattle.tc_edges.proofs.CltuLemmas.Names.{bit_at, bits_of, block_remainder, block_times_x, block_with_bit, cases_lt, code_block, flipped, le-ltb, lt-ltb, octet_bits, parity_of, same_below, word, xor_comm, xor_lt, xor_zero_r}
use Rattle.tc_edges.proofs.FecfLemmas.Polynomials.{exchange, scaled, bit_of_sum, again}
use Rattle.tc_edges.proofs.CltuLemmas.Division.{times_x-linear, remainder-fits, onward}
use Rattle.tc_edges.proofs.CltuLemmas.Patterns.{zeros-length, AreBits, xors, zeros, single, xors-append, xors-zeros, zeros-xors, xors-take, single-length, single-take}

-- ---- bits
pub bits-append : (bs cs : List ℕ) → AreBits bs → AreBits cs → AreBits (bs ++ cs)
bits-append [] cs p q = q
bits-append (b ∷ bs) cs p q = (p.0, bits-append bs cs p.1 q)

pub are-bits : (os : List ℕ) → AreBits (bits_of os)
unfolding octet_bits
are-bits [] = tt
are-bits (o ∷ os) = (omega arith, (omega arith, (omega arith, (omega arith, (omega arith, (omega arith, (omega arith, (omega arith, are-bits os))))))))

pub bits-length : (os : List ℕ) → length (bits_of os) ≡ 8 * length os
unfolding octet_bits
bits-length [] = refl
bits-length (o ∷ os) = let rest = bits-length os in omega arith

pub fifty-six : (os : List ℕ) → length os ≡ 7 → length (bits_of os) ≡ 56
fifty-six os l = bits-length os ∙ ap (λ (n : ℕ). 8 * n) l

abbrev pub seven : ℕ → List ℕ
seven h = bit_at h 6 ∷ bit_at h 5 ∷ bit_at h 4 ∷ bit_at h 3 ∷ bit_at h 2 ∷ bit_at h 1 ∷ bit_at h 0 ∷ []

-- the first seven bits of an octet are the bits of its half
seven-half : (o : ℕ) → bit_at o 7 ∷ bit_at o 6 ∷ bit_at o 5 ∷ bit_at o 4 ∷ bit_at o 3 ∷ bit_at o 2 ∷ bit_at o 1 ∷ [] ≡ seven (o / 2)
seven-half o =
    let a : bit_at o 7 ≡ bit_at (o / 2) 6 = omega arith in let b : bit_at o 6 ≡ bit_at (o / 2) 5 = omega arith in
    let c : bit_at o 5 ≡ bit_at (o / 2) 4 = omega arith in let d : bit_at o 4 ≡ bit_at (o / 2) 3 = omega arith in
    let e : bit_at o 3 ≡ bit_at (o / 2) 2 = omega arith in let f : bit_at o 2 ≡ bit_at (o / 2) 1 = omega arith in
    let g : bit_at o 1 ≡ bit_at (o / 2) 0 = omega arith in
    cc

pub seven-bits : (o : ℕ) → AreBits (seven o)
seven-bits o = (omega arith, (omega arith, (omega arith, (omega arith, (omega arith, (omega arith, (omega arith, tt)))))))

-- ---- division
pub remainder-linear : (bs cs : List ℕ) (r s : ℕ) → length bs ≡ length cs → block_remainder (bit_xor r s) (xors bs cs) ≡ bit_xor (block_remainder r bs) (block_remainder s cs)
unfolding xors
remainder-linear [] [] r s l = refl
remainder-linear (b ∷ bs) (c ∷ cs) r s l =
    let one : block_with_bit (bit_xor r s) (bit_xor b c) ≡ bit_xor (block_with_bit r b) (block_with_bit s c) =
    ap block_times_x (ap (bit_xor (bit_xor r s)) (scaled 6 b c) ∙ exchange r s (b * 2 ^ 6) (c * 2 ^ 6)) ∙ times_x-linear (bit_xor r (b * 2 ^ 6)) (bit_xor s (c * 2 ^ 6)) in
    ap (λ (x : ℕ). block_remainder x (xors bs cs)) one ∙ remainder-linear bs cs (block_with_bit r b) (block_with_bit s c) (omega arith)
remainder-linear _ _ r s l = absurd (omega arith)

pub zeros-twice : (n : ℕ) → xors (zeros n) (zeros n) ≡ zeros n
zeros-twice n = ap (λ (m : ℕ). xors (zeros m) (zeros n)) (sym (zeros-length n)) ∙ zeros-xors (zeros n)

-- The remainder of a word divided by the generator. After the word, the register holds x ^ 7 times this remainder. The
-- 56 zeros multiply it by x ^ 56, and x ^ 63 is 1 modulo G.
unfoldable pub left : List ℕ → ℕ
left bs = block_remainder (block_remainder 0 bs) (zeros 56)

around : (s : ℕ) → s < 128 → block_remainder (block_remainder s (zeros 7)) (zeros 56) ≡ s
unfolding block_times_x
around = same_below (λ s. block_remainder (block_remainder s (zeros 7)) (zeros 56)) (λ s. s) 128 refl

pub left-linear : (bs cs : List ℕ) → length bs ≡ length cs → left (xors bs cs) ≡ bit_xor (left bs) (left cs)
unfolding left
left-linear bs cs l =
    let one = block_remainder 0 bs in let other = block_remainder 0 cs in
    ap (λ (x : ℕ). block_remainder x (zeros 56)) (remainder-linear bs cs 0 0 l)
    ∙ ap (block_remainder (bit_xor one other)) (sym (zeros-twice 56)) ∙ remainder-linear (zeros 56) (zeros 56) one other refl

halves : (h : ℕ) → h < 128 → block_remainder 0 (seven h) ≡ block_remainder h (zeros 7)
unfolding block_times_x
halves = same_below (λ h. block_remainder 0 (seven h)) (λ h. block_remainder h (zeros 7)) 128 refl

more-seven : (r h : ℕ) → h < 128 → block_remainder r (seven h) ≡ block_remainder (bit_xor r h) (zeros 7)
more-seven r h fits =
    ap (λ (x : ℕ). block_remainder x (seven h)) (sym (xor_zero_r r)) ∙ ap (block_remainder (bit_xor r 0)) (sym (zeros-xors (seven h)))
    ∙ remainder-linear (zeros 7) (seven h) r 0 (zeros-length 7) ∙ ap (bit_xor (block_remainder r (zeros 7))) (halves h fits)
    ∙ sym (remainder-linear (zeros 7) (zeros 7) r h refl) ∙ ap (block_remainder (bit_xor r h)) (zeros-twice 7)

-- ---- words
pub word-is : (a b c d e f g last : ℕ) → word (a ∷ b ∷ c ∷ d ∷ e ∷ f ∷ g ∷ last ∷ []) ≡ bits_of (a ∷ b ∷ c ∷ d ∷ e ∷ f ∷ g ∷ []) ++ seven (last / 2)
unfolding octet_bits
word-is a b c d e f g last = ap (λ (x : List ℕ). bits_of (a ∷ b ∷ c ∷ d ∷ e ∷ f ∷ g ∷ []) ++ x) (seven-half last)

pub word-parts : (information : List ℕ) (last : ℕ) → length information ≡ 7 → word (information ++ last ∷ []) ≡ bits_of information ++ seven (last / 2)
word-parts (a ∷ b ∷ c ∷ d ∷ e ∷ f ∷ g ∷ []) last l = word-is a b c d e f g last
word-parts _ last l = absurd (omega arith)

-- the word of a block leaves the sum of its first seven octets' remainder and its parity bits
pub word-left : (information : List ℕ) (last : ℕ) → length information ≡ 7 → last < 256
    → left (word (information ++ last ∷ [])) ≡ bit_xor (block_remainder 0 (bits_of information)) (last / 2)
unfolding left
word-left information last l fits =
    let r = block_remainder 0 (bits_of information) in
    ap (λ (x : List ℕ). block_remainder (block_remainder 0 x) (zeros 56)) (word-parts information last l)
    ∙ ap (λ (x : ℕ). block_remainder x (zeros 56)) (onward (bits_of information) (seven (last / 2)) 0 ∙ more-seven r (last / 2) (omega arith))
    ∙ around (bit_xor r (last / 2)) (xor_lt 7 r (last / 2) (remainder-fits (bits_of information) 0 (omega arith)) (omega arith))

-- two blocks that differ only in the filler bit have equal words
word-alike : (information : List ℕ) (o p : ℕ) → length information ≡ 7 → o / 2 ≡ p / 2 → word (information ++ o ∷ []) ≡ word (information ++ p ∷ [])
word-alike information o p l h =
    word-parts information o l ∙ ap (λ (x : ℕ). bits_of information ++ seven x) h ∙ sym (word-parts information p l)

pub parity-fits : (information : List ℕ) → parity_of information < 2 ^ 7
parity-fits information = xor_lt 7 127 (block_remainder 0 (bits_of information)) (omega arith) (remainder-fits (bits_of information) 0 (omega arith))

-- the word of a code block leaves the remainder 127, and, by the next lemma, no other word with its information does
pub block-left : (information : List ℕ) → length information ≡ 7 → left (word (code_block information)) ≡ 127
block-left information l =
    let fits = parity-fits information in
    let r = block_remainder 0 (bits_of information) in
    let half : parity_of information * 2 / 2 ≡ parity_of information = omega arith in
    word-left information (parity_of information * 2) l (omega arith) ∙ ap (bit_xor r) (half ∙ xor_comm 127 r) ∙ again r 127

pub left-block : (information : List ℕ) (last : ℕ) → length information ≡ 7 → last < 256 → left (word (information ++ last ∷ [])) ≡ 127
    → word (information ++ last ∷ []) ≡ word (code_block information)
left-block information last l fits h =
    let r = block_remainder 0 (bits_of information) in
    let e : bit_xor r (last / 2) ≡ 127 = sym (word-left information last l fits) ∙ h in
    let half : last / 2 ≡ parity_of information = sym (again r (last / 2)) ∙ ap (bit_xor r) e ∙ xor_comm r 127 in
    let fits' = parity-fits information in
    word-alike information last (parity_of information * 2) l (omega arith)

-- ---- one inverted bit
pub octet-sum : (a b : ℕ) → octet_bits (bit_xor a b) ≡ xors (octet_bits a) (octet_bits b)
unfolding octet_bits xors
octet-sum a b =
    let a0 = bit_of_sum a b 0 in let a1 = bit_of_sum a b 1 in let a2 = bit_of_sum a b 2 in let a3 = bit_of_sum a b 3 in
    let a4 = bit_of_sum a b 4 in let a5 = bit_of_sum a b 5 in let a6 = bit_of_sum a b 6 in let a7 = bit_of_sum a b 7 in
    cc

octet-one : (k : ℕ) → k < 8 → octet_bits (2 ^ (7 - k)) ≡ single k 8
unfolding octet_bits single
octet-one (suc (suc (suc (suc (suc (suc (suc (suc k)))))))) less = absurd (omega arith)
octet-one _ less = refl

single-front : (k m n : ℕ) → k < m → single k (m + n) ≡ single k m ++ zeros n
unfolding single
single-front k zero n less = absurd (omega arith)
single-front zero (suc m) n less =
    let e : suc m + n ≡ suc (m + n) = omega arith in ap (single 0) e ∙ ap (λ (x : List ℕ). 1 ∷ x) (sym (replicate-append-replicate m n 0))
single-front (suc k) (suc m) n less =
    let e : suc m + n ≡ suc (m + n) = omega arith in ap (single (suc k)) e ∙ ap (λ (x : List ℕ). 0 ∷ x) (single-front k m n (omega arith))

single-back : (k m n : ℕ) → m ≤ k → single k (m + n) ≡ zeros m ++ single (k - m) n
unfolding single
single-back k zero n less =
    let e : 0 + n ≡ n = omega arith in let f : k ≡ k - 0 = omega arith in ap (single k) e ∙ ap (λ (x : ℕ). single x n) f
single-back zero (suc m) n less = absurd (omega arith)
single-back (suc k) (suc m) n less =
    let e : suc m + n ≡ suc (m + n) = omega arith in
    let f : k - m ≡ suc k - suc m = omega arith in
    ap (single (suc k)) e ∙ ap (λ (x : List ℕ). 0 ∷ x) (single-back k m n (omega arith)) ∙ ap (λ (x : ℕ). 0 ∷ (zeros m ++ single x n)) f

pub eight : (o : ℕ) → length (octet_bits o) ≡ 8
unfolding octet_bits
eight o = refl

octet-same : (o : ℕ) → xors (octet_bits o) (zeros 8) ≡ octet_bits o
octet-same o = ap (λ (n : ℕ). xors (octet_bits o) (zeros n)) (sym (eight o)) ∙ xors-zeros (octet_bits o)

pub bits-turned : (os : List ℕ) (k n : ℕ) → length (bits_of os) ≡ n → k < n → bits_of (flipped os k) ≡ xors (bits_of os) (single k n)
bits-turned [] k n l less = absurd (omega arith)
bits-turned (o ∷ os) k n l less =
    let m = length (bits_of os) in
    let total : n ≡ 8 + m = sym l ∙ length-append (octet_bits o) (bits_of os) ∙ ap (λ (x : ℕ). x + m) (eight o) in
    elim (cases_lt k 8) [
      | inl low ↦
          ap (λ (t : Bool). bits_of (if t then bit_xor o (2 ^ (7 - k)) ∷ os else o ∷ flipped os (k - 8))) (lt-ltb k 8 low)
          ∙ ap (λ (x : List ℕ). x ++ bits_of os) (octet-sum o (2 ^ (7 - k)) ∙ ap (xors (octet_bits o)) (octet-one k low))
          ∙ ap (λ (x : List ℕ). xors (octet_bits o) (single k 8) ++ x) (sym (xors-zeros (bits_of os)))
          ∙ sym (xors-append (octet_bits o) (bits_of os) (single k 8) (zeros m) (eight o ∙ sym (single-length k 8)))
          ∙ ap (xors (octet_bits o ++ bits_of os)) (sym (ap (single k) total ∙ single-front k 8 m low))
      | inr high ↦
          ap (λ (t : Bool). bits_of (if t then bit_xor o (2 ^ (7 - k)) ∷ os else o ∷ flipped os (k - 8))) (le-ltb k 8 high)
          ∙ ap (λ (x : List ℕ). octet_bits o ++ x) (bits-turned os (k - 8) m refl (omega arith))
          ∙ ap (λ (x : List ℕ). x ++ xors (bits_of os) (single (k - 8) m)) (sym (octet-same o))
          ∙ sym (xors-append (octet_bits o) (bits_of os) (zeros 8) (single (k - 8) m) (eight o ∙ sym (zeros-length 8)))
          ∙ ap (xors (octet_bits o ++ bits_of os)) (sym (ap (single k) total ∙ single-back k 8 m high))
    ]

-- inverting a bit of a whole block inverts that bit of its word
pub word-turned : (block : List ℕ) (k : ℕ) → length block ≡ 8 → k < 63 → word (flipped block k) ≡ xors (word block) (single k 63)
word-turned block k l less =
    let n : length (bits_of block) ≡ 64 = bits-length block ∙ ap (λ (x : ℕ). 8 * x) l in
    ap (take 63) (bits-turned block k 64 n (omega arith)) ∙ xors-take 63 (bits_of block) (single k 64)
    ∙ ap (xors (word block)) (single-take k 63 64 (omega arith))
