-- Octets that pass have an even number of ones, so an odd number of changes is detected.
use Rattle.std.proofs.Common.{◌≡◌, ℕ, suc, ◌+◌, ◌*◌, ◌/◌, ◌%◌, ◌^◌, ◌<◌, ◌==◌, if◌then◌else◌, List, [], ◌∷◌, bit_xor, length, sum, refl, ap, sym, ◌∙◌, arith}
use Rattle.std.proofs.lemmas.List.Sums.{sum_by-cons}
use Rattle.tc_edges.proofs.FecfLemmas.Names.{bits, bits_of, checksum_of, remainder, times_x, with_bit, xor_lt, xor_shifted, xor_shr}
use Rattle.tc_edges.specs.Fecf.Changes.{SameOctets, Passes, differences}
use Rattle.tc_edges.proofs.FecfLemmas.Linear.{times_x-linear, times_x-fits}
use Rattle.tc_edges.proofs.FecfLemmas.Below.{same_below}
use Rattle.tc_edges.proofs.FecfLemmas.Changes.{bits-bits, bits-length}
use Rattle.tc_edges.proofs.FecfLemmas.Polynomials.{AreBits, exchange, bit_of_sum}

unfoldable pub half : ℕ → ℕ → ℕ
half k y = bit_xor y (y / 2 ^ k)

half-linear : (k a b : ℕ) → half k (bit_xor a b) ≡ bit_xor (half k a) (half k b)
unfolding half
half-linear k a b = ap (bit_xor (bit_xor a b)) (xor_shr a b k) ∙ exchange a b (a / 2 ^ k) (b / 2 ^ k)

-- 1 if an odd number of the 16 digits are 1, and otherwise 0
unfoldable pub parity : ℕ → ℕ
parity y = bits (half 1 (half 2 (half 4 (half 8 y)))) 0 1

pub parity-linear : (a b : ℕ) → parity (bit_xor a b) ≡ bit_xor (parity a) (parity b)
unfolding parity
parity-linear a b =
    ap (λ (x : ℕ). bits x 0 1)
    (ap (λ (x : ℕ). half 1 (half 2 (half 4 x))) (half-linear 8 a b) ∙ ap (λ (x : ℕ). half 1 (half 2 x)) (half-linear 4 (half 8 a) (half 8 b))
    ∙ ap (half 1) (half-linear 2 (half 4 (half 8 a)) (half 4 (half 8 b))) ∙ half-linear 1 (half 2 (half 4 (half 8 a))) (half 2 (half 4 (half 8 b))))
    ∙ bit_of_sum (half 1 (half 2 (half 4 (half 8 a)))) (half 1 (half 2 (half 4 (half 8 b)))) 0

lows : (x : ℕ) → x < 256 → parity (times_x x) ≡ parity x
unfolding parity half times_x
lows = same_below (λ x. parity (times_x x)) parity 256 refl

highs : (x : ℕ) → x < 256 → parity (times_x (x * 256)) ≡ parity (x * 256)
unfolding parity half times_x
highs = same_below (λ x. parity (times_x (x * 256))) (λ x. parity (x * 256)) 256 refl

parity-kept : (y : ℕ) → y < 2 ^ 16 → parity (times_x y) ≡ parity y
parity-kept y fits =
    let h = y / 256 in let l = y % 256 in
    let split : y ≡ bit_xor (h * 256) l = sym (xor_shifted h 8 l (omega arith) ∙ omega arith) in
    ap (λ (x : ℕ). parity (times_x x)) split
    ∙ ap parity (times_x-linear (h * 256) l) ∙ parity-linear (times_x (h * 256)) (times_x l)
    ∙ ap (λ (x : ℕ). bit_xor x (parity (times_x l))) (highs h (omega arith)) ∙ ap (bit_xor (parity (h * 256))) (lows l (omega arith))
    ∙ sym (parity-linear (h * 256) l) ∙ ap parity (sym split)

bit-parity : (b : ℕ) → b < 2 → parity (b * 2 ^ 15) ≡ b
unfolding parity half
bit-parity (suc (suc b)) fits = absurd (omega arith)
bit-parity _ fits = refl

pub added : (p b : ℕ) → p < 2 → b < 2 → bit_xor p b ≡ (p + b) % 2
added (suc (suc p)) b p_fits b_fits = absurd (omega arith)
added p (suc (suc b)) p_fits b_fits = absurd (omega arith)
added _ _ p_fits b_fits = refl

pub parity-fits : (y : ℕ) → parity y < 2
unfolding parity
parity-fits y = omega arith

pub total : (b : ℕ) (bs : List ℕ) → sum (b ∷ bs) ≡ b + sum bs
total b bs = sum_by-cons (λ (x : ℕ). x) b bs

pub counted : (bs : List ℕ) (r : ℕ) → AreBits bs → r < 2 ^ 16 → parity (remainder r bs) ≡ (parity r + sum bs) % 2
unfolding AreBits
counted [] r each_bit fits = let p = parity-fits r in omega arith
counted (b ∷ bs) r each_bit fits =
    let b_fits : b < 2 = each_bit 0 in
    let one : parity (with_bit r b) ≡ (parity r + b) % 2 =
    parity-kept (bit_xor r (b * 2 ^ 15)) (xor_lt 16 r (b * 2 ^ 15) fits (omega arith)) ∙ parity-linear r (b * 2 ^ 15)
    ∙ ap (bit_xor (parity r)) (bit-parity b b_fits) ∙ added (parity r) b (parity-fits r) b_fits in
    let rest : parity (remainder (with_bit r b) bs) ≡ (parity (with_bit r b) + sum bs) % 2 = counted bs (with_bit r b) (λ k. each_bit (suc k)) (times_x-fits _) in
    let sums = total b bs in
    omega arith

parity-start : parity 65535 ≡ 0
unfolding parity half
parity-start = refl

parity-end : parity 0 ≡ 0
unfolding parity half
parity-end = refl

even-ones : (octets : List ℕ) → Passes octets → sum (bits_of octets) % 2 ≡ 0
even-ones octets passes =
    let start : parity 65535 ≡ 0 = parity-start in
    let e : parity (checksum_of octets) ≡ (parity 65535 + sum (bits_of octets)) % 2 = counted (bits_of octets) 65535 (bits-bits octets) (omega arith) in
    let end : parity (checksum_of octets) ≡ 0 = ap parity passes ∙ parity-end in
    omega arith

-- two bits that differ contain one 1, and two equal bits contain none or two
one-place : (b c : ℕ) → b < 2 → c < 2 → (b + c + (if b == c then 0 else 1)) % 2 ≡ 0
one-place (suc (suc b)) c b_fits c_fits = absurd (omega arith)
one-place b (suc (suc c)) b_fits c_fits = absurd (omega arith)
one-place _ _ b_fits c_fits = refl

all-places : (bs cs : List ℕ) → length bs ≡ length cs → AreBits bs → AreBits cs → (sum bs + sum cs + differences bs cs) % 2 ≡ 0
unfolding AreBits
all-places [] [] lengths bits_b bits_c = refl
all-places (b ∷ bs) (c ∷ cs) lengths bits_b bits_c =
    let rest = all-places bs cs (omega arith) (λ k. bits_b (suc k)) (λ k. bits_c (suc k)) in
    let first = one-place b c (bits_b 0) (bits_c 0) in
    let x = total b bs in let y = total c cs in omega arith
all-places _ _ lengths bits_b bits_c = absurd (omega arith)

pub odd-detected : (one other : List ℕ) → SameOctets one other → differences (bits_of one) (bits_of other) % 2 ≡ 1 → Passes one → Passes other → ⊥
odd-detected one other is odd passes_one passes_other =
    let ones = even-ones one passes_one in let others = even-ones other passes_other in
    let places = all-places (bits_of one) (bits_of other) (bits-length one other is.length) (bits-bits one) (bits-bits other) in
    omega arith
