-- The remainder of octets, by one look-up in a table for each octet, and the sequence of the randomiser.
use Rattle.std.proofs.Common.{◌≡◌, ℕ, ◌+◌, ◌*◌, ◌<◌, ◌≤◌, List, [], ◌∷◌, ◌++◌, length, get_or, take, set, append_assoc, drop, replicate, bit_xor, refl, ap, sym, ◌∙◌, arith, zero, suc}
use Rattle.tc_edges.proofs.CltuLemmas.Names.{NEXT_OCTETS, REMAINDERS, bit_at, bits_of, IsOctets, block_remainder, block_times_x, moved_on, next_bit, octet_bits, octet_on, randomised_from, same_below, twice, xor_assoc, xor_zero_r}
use Rattle.std.specs.Int.Bits.{xor_zero_l}
use Rattle.std.proofs.lemmas.List.{take_more_set, drop-set-lt, at_drop_more, at_drop_all, take_all, append-nil}
use Rattle.tc_edges.proofs.CltuLemmas.Division.{onward}
use Rattle.tc_edges.proofs.CltuLemmas.Patterns.{zeros-length, xors, zeros, zeros-xors}
use Rattle.tc_edges.proofs.CltuLemmas.Words.{eight, remainder-linear, zeros-twice}
use Rattle.tc_edges.specs.Cltu.Randomiser.{random_octets, random_bits}

-- ---- the remainder of an octet with a number of octets after it
abbrev on : ℕ → ℕ → ℕ
on zero r = r
on (suc k) r = block_remainder (on k r) (zeros 8)

abbrev left_of : ℕ → ℕ
left_of o = block_remainder 0 (octet_bits o)

rows : (k o : ℕ) → k < 7 → o < 256 → get_or (get_or REMAINDERS k []) o 0 ≡ on k (left_of o)
unfolding octet_bits block_times_x
rows zero o less fits = same_below (λ o. get_or (get_or REMAINDERS 0 []) o 0) (λ o. on 0 (left_of o)) 256 refl o fits
rows (suc zero) o less fits = same_below (λ o. get_or (get_or REMAINDERS 1 []) o 0) (λ o. on 1 (left_of o)) 256 refl o fits
rows (suc (suc zero)) o less fits = same_below (λ o. get_or (get_or REMAINDERS 2 []) o 0) (λ o. on 2 (left_of o)) 256 refl o fits
rows (suc (suc (suc zero))) o less fits = same_below (λ o. get_or (get_or REMAINDERS 3 []) o 0) (λ o. on 3 (left_of o)) 256 refl o fits
rows (suc (suc (suc (suc zero)))) o less fits = same_below (λ o. get_or (get_or REMAINDERS 4 []) o 0) (λ o. on 4 (left_of o)) 256 refl o fits
rows (suc (suc (suc (suc (suc zero))))) o less fits = same_below (λ o. get_or (get_or REMAINDERS 5 []) o 0) (λ o. on 5 (left_of o)) 256 refl o fits
rows (suc (suc (suc (suc (suc (suc zero)))))) o less fits = same_below (λ o. get_or (get_or REMAINDERS 6 []) o 0) (λ o. on 6 (left_of o)) 256 refl o fits
rows _ o less fits = absurd (omega arith)

on-zero : (k : ℕ) → on k 0 ≡ 0
unfolding block_times_x
on-zero zero = refl
on-zero (suc k) = ap (λ (x : ℕ). block_remainder x (zeros 8)) (on-zero k)

on-xor : (k a b : ℕ) → on k (bit_xor a b) ≡ bit_xor (on k a) (on k b)
on-xor zero a b = refl
on-xor (suc k) a b =
    ap (λ (x : ℕ). block_remainder x (zeros 8)) (on-xor k a b) ∙ ap (block_remainder (bit_xor (on k a) (on k b))) (sym (zeros-twice 8))
    ∙ remainder-linear (zeros 8) (zeros 8) (on k a) (on k b) refl

on-first : (k r : ℕ) → on k (block_remainder r (zeros 8)) ≡ on (suc k) r
on-first zero r = refl
on-first (suc k) r = ap (λ (x : ℕ). block_remainder x (zeros 8)) (on-first k r)

one-more : (r o : ℕ) → block_remainder r (octet_bits o) ≡ bit_xor (block_remainder r (zeros 8)) (left_of o)
one-more r o =
    ap (λ (x : ℕ). block_remainder x (octet_bits o)) (sym (xor_zero_r r))
    ∙ ap (block_remainder (bit_xor r 0)) (sym (ap (λ (n : ℕ). xors (zeros n) (octet_bits o)) (sym (eight o)) ∙ zeros-xors (octet_bits o)))
    ∙ remainder-linear (zeros 8) (octet_bits o) r 0 (zeros-length 8 ∙ sym (eight o))

abbrev sum_of : List ℕ → ℕ
sum_of [] = 0
sum_of (o ∷ os) = bit_xor (on (length os) (left_of o)) (sum_of os)

all-left : (os : List ℕ) (r : ℕ) → block_remainder r (bits_of os) ≡ bit_xor (on (length os) r) (sum_of os)
all-left [] r = sym (xor_zero_r r)
all-left (o ∷ os) r =
    onward (octet_bits o) (bits_of os) r ∙ ap (λ (x : ℕ). block_remainder x (bits_of os)) (one-more r o)
    ∙ all-left os (bit_xor (block_remainder r (zeros 8)) (left_of o))
    ∙ ap (λ (x : ℕ). bit_xor x (sum_of os)) (on-xor (length os) (block_remainder r (zeros 8)) (left_of o) ∙ ap (λ (x : ℕ). bit_xor x (on (length os) (left_of o))) (on-first (length os) r))
    ∙ xor_assoc (on (suc (length os)) r) (on (length os) (left_of o)) (sum_of os)

abbrev pub row : ℕ → ℕ → ℕ
row k o = get_or (get_or REMAINDERS k []) o 0

-- the remainder of seven octets is the sum of seven look-ups in the tables
pub seven-left : (os : List ℕ) → length os ≡ 7 → IsOctets os
    → bit_xor (row 6 (get_or os 0 0)) (bit_xor (row 5 (get_or os 1 0)) (bit_xor (row 4 (get_or os 2 0)) (bit_xor (row 3 (get_or os 3 0)) (bit_xor (row 2 (get_or os 4 0)) (bit_xor (row 1 (get_or os 5 0)) (row 0 (get_or os 6 0)))))))
    ≡ block_remainder 0 (bits_of os)
seven-left (a ∷ b ∷ c ∷ d ∷ e ∷ f ∷ g ∷ []) seven each =
    let os = a ∷ b ∷ c ∷ d ∷ e ∷ f ∷ g ∷ [] in
    let all : block_remainder 0 (bits_of os) ≡ sum_of os = all-left os 0 ∙ ap (λ (x : ℕ). bit_xor x (sum_of os)) (on-zero 7) ∙ xor_zero_l (sum_of os) in
    rw (rows 6 a (omega arith) (each 0), rows 5 b (omega arith) (each 1), rows 4 c (omega arith) (each 2), rows 3 d (omega arith) (each 3), rows 2 e (omega arith) (each 4), rows 1 f (omega arith) (each 5), rows 0 g (omega arith) (each 6), all, xor_zero_r (left_of g))
seven-left _ seven each = absurd (omega arith)

-- ---- the randomiser
pub next_octet : (r : ℕ) → r < 256 → get_or NEXT_OCTETS r 0 ≡ octet_on r
unfolding octet_on moved_on next_bit
next_octet = same_below (λ r. get_or NEXT_OCTETS r 0) octet_on 256 refl

bit-fits : (r : ℕ) → next_bit r < 2
unfolding next_bit
bit-fits r = omega arith

-- a step of the randomiser adds the register to one more octet
pub random-step : (os target : List ℕ) (i r next : ℕ) → i < length os → next ≡ octet_on r → take i os ++ randomised_from r (drop i os) ≡ target
    → take (i + 1) (set os i (bit_xor (get_or os i 0) r)) ++ randomised_from next (drop (i + 1) (set os i (bit_xor (get_or os i 0) r))) ≡ target
random-step os target i r next less is h =
    let v = bit_xor (get_or os i 0) r in
    let rest = randomised_from (octet_on r) (drop (i + 1) os) in
    ap (λ (x : List ℕ). x ++ randomised_from next (drop (i + 1) (set os i v))) (take_more_set os i v less)
    ∙ ap (λ (x : List ℕ). take i os ++ v ∷ [] ++ randomised_from next x) (drop-set-lt (i + 1) os i v (omega arith))
    ∙ ap (λ (x : ℕ). take i os ++ v ∷ [] ++ randomised_from x (drop (i + 1) os)) is
    ∙ append_assoc (take i os) (v ∷ []) rest
    ∙ sym (at_drop_more (λ (x : List ℕ). take i os ++ randomised_from r x) os i 0 less)
    ∙ h

pub random-end : (os target : List ℕ) (i r : ℕ) → length os ≤ i → take i os ++ randomised_from r (drop i os) ≡ target → os ≡ target
random-end os target i r past h =
    sym (append-nil os) ∙ ap (λ (x : List ℕ). x ++ []) (sym (take_all i os past)) ∙ sym (at_drop_all (λ (x : List ℕ). take i os ++ randomised_from r x) os i past) ∙ h

pub random-twice : (os : List ℕ) (r : ℕ) → randomised_from r (randomised_from r os) ≡ os
random-twice [] r = refl
random-twice (o ∷ os) r = ap (λ (x : ℕ). x ∷ randomised_from (octet_on r) (randomised_from (octet_on r) os)) (twice o r) ∙ ap (λ (x : List ℕ). o ∷ x) (random-twice os (octet_on r))

pub random-zeros : (n r : ℕ) → randomised_from r (replicate n 0) ≡ random_octets r n
random-zeros zero r = refl
random-zeros (suc n) r = ap (λ (x : ℕ). x ∷ randomised_from (octet_on r) (replicate n 0)) (xor_zero_l r) ∙ ap (λ (x : List ℕ). r ∷ x) (random-zeros n (octet_on r))

-- ---- the sequence of the randomiser, bit by bit
-- bit k + 1 of the register after a step is bit k before the step
abbrev IsMoved : ℕ → ℕ → Type 0
IsMoved r k = bit_at (moved_on r) (suc k) ≡ bit_at r k

moved : (r : ℕ) → IsMoved r 0 × IsMoved r 1 × IsMoved r 2 × IsMoved r 3 × IsMoved r 4 × IsMoved r 5 × IsMoved r 6
unfolding moved_on
moved r = let n = bit-fits r in (omega arith, omega arith, omega arith, omega arith, omega arith, omega arith, omega arith)

first-bits : (r n : ℕ) → octet_bits r ++ random_bits (octet_on r) n ≡ random_bits r (suc (suc (suc (suc (suc (suc (suc (suc n))))))))
unfolding octet_bits octet_on
first-bits r n =
    let r1 = moved_on r in let r2 = moved_on r1 in let r3 = moved_on r2 in let r4 = moved_on r3 in let r5 = moved_on r4 in let r6 = moved_on r5 in
    let a = moved r in let b = moved r1 in let c = moved r2 in let d = moved r3 in let e = moved r4 in let f = moved r5 in let g = moved r6 in
    cc

pub bits-are : (n r : ℕ) → bits_of (random_octets r n) ≡ random_bits r (8 * n)
bits-are zero r = refl
bits-are (suc n) r =
    let count : suc (suc (suc (suc (suc (suc (suc (suc (8 * n)))))))) ≡ 8 * suc n = omega arith in
    ap (λ (x : List ℕ). octet_bits r ++ x) (bits-are n (octet_on r)) ∙ first-bits r (8 * n) ∙ ap (random_bits r) count
