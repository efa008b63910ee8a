-- Polynomials over bits, and their division by x ^ (m + 1) + x ^ j + x ^ k + 1 in a register of m + 1 bits.
use Rattle.std.proofs.Common.{◌≡◌, ℕ, zero, suc, ◌+◌, ◌*◌, ◌/◌, ◌%◌, ◌^◌, ◌<◌, ◌≤◌, List, [], ◌∷◌, bit_xor, length, get_or, ap, sym, ◌∙◌, arith}
use Rattle.std.proofs.lemmas.Nat.{pow_pos, shl-shr, shl_below, shr_below, xor_block, xor_comm, xor_lt, xor_mod, xor_shr}
use Rattle.std.proofs.Math.Nat.{add-zero, pow-suc, pow-le-pow_right}
use lib.Bits.{xor_assoc, xor_self, xor_zero_l, xor_zero_r, xor_shifted}
use Rattle.tc_edges.specs.Fecf.Division.{polynomial}

-- ---- sums
pub exchange : (a b c d : ℕ) → bit_xor (bit_xor a b) (bit_xor c d) ≡ bit_xor (bit_xor a c) (bit_xor b d)
exchange a b c d =
    xor_assoc a b (bit_xor c d)
    ∙ ap (bit_xor a) (sym (xor_assoc b c d) ∙ ap (λ (x : ℕ). bit_xor x d) (xor_comm b c) ∙ xor_assoc c b d)
    ∙ sym (xor_assoc a c (bit_xor b d))

pub scaled : (k a b : ℕ) → bit_xor a b * 2 ^ k ≡ bit_xor (a * 2 ^ k) (b * 2 ^ k)
scaled k a b =
    let e : bit_xor (a * 2 ^ k + 0) (b * 2 ^ k + 0) ≡ bit_xor a b * 2 ^ k + 0 = xor_block k a b 0 0 (pow_pos k) (pow_pos k) in
    sym (add-zero _) ∙ sym e ∙ ap (λ (x : ℕ). bit_xor x (b * 2 ^ k + 0)) (add-zero (a * 2 ^ k)) ∙ ap (bit_xor (a * 2 ^ k)) (add-zero (b * 2 ^ k))

pub twice : (a b : ℕ) → bit_xor (bit_xor a b) b ≡ a
twice a b = xor_assoc a b b ∙ ap (bit_xor a) (xor_self b) ∙ xor_zero_r a

pub again : (a b : ℕ) → bit_xor a (bit_xor a b) ≡ b
again a b = xor_comm a (bit_xor a b) ∙ ap (λ (x : ℕ). bit_xor x a) (xor_comm a b) ∙ twice b a

pub same : (a b : ℕ) → bit_xor a b ≡ 0 → a ≡ b
same a b none = sym (twice a b) ∙ ap (λ (x : ℕ). bit_xor x b) none ∙ xor_zero_l b

pub bit_of_sum : (a b i : ℕ) → bit_xor a b / 2 ^ i % 2 ≡ bit_xor (a / 2 ^ i % 2) (b / 2 ^ i % 2)
bit_of_sum a b i = ap (λ (x : ℕ). x % 2) (xor_shr a b i) ∙ xor_mod (a / 2 ^ i) (b / 2 ^ i) 1

unfoldable pub AreBits : List ℕ → Type 0
AreBits bs = (k : ℕ) → get_or bs k 0 < 2

within : (a e f : ℕ) → a < 2 ^ e → e ≤ f → a < 2 ^ f
within a e f less up = let more = pow-le-pow_right {n = 2} (omega arith) {i = e} {j = f} up in omega arith

-- ---- a register times x: g is the generator without its first term
abbrev pub times : ℕ → ℕ → ℕ → ℕ
times m g r = bit_xor (r * 2 % 2 ^ suc m) (r / 2 ^ m % 2 * g)

bit_times : (s t g : ℕ) → s < 2 → t < 2 → bit_xor s t * g ≡ bit_xor (s * g) (t * g)
bit_times zero t g p q = ap (λ (x : ℕ). x * g) (xor_zero_l t) ∙ sym (xor_zero_l (t * g)) ∙ ap (λ (x : ℕ). bit_xor x (t * g)) (let e : 0 ≡ 0 * g = omega arith in e)
bit_times (suc zero) zero g p q = sym (xor_zero_r (1 * g)) ∙ ap (bit_xor (1 * g)) (let e : 0 ≡ 0 * g = omega arith in e)
bit_times (suc zero) (suc zero) g p q = (let e : 0 * g ≡ 0 = omega arith in e) ∙ sym (xor_self (1 * g))
bit_times _ _ g p q = absurd (omega arith)

pub times-linear : (m g a b : ℕ) → times m g (bit_xor a b) ≡ bit_xor (times m g a) (times m g b)
times-linear m g a b =
    let low : bit_xor a b * 2 % 2 ^ suc m ≡ bit_xor (a * 2 % 2 ^ suc m) (b * 2 % 2 ^ suc m) =
    ap (λ (x : ℕ). x % 2 ^ suc m) (scaled 1 a b) ∙ xor_mod (a * 2) (b * 2) (suc m) in
    let high : bit_xor a b / 2 ^ m % 2 * g ≡ bit_xor (a / 2 ^ m % 2 * g) (b / 2 ^ m % 2 * g) =
    ap (λ (x : ℕ). x * g) (bit_of_sum a b m) ∙ bit_times (a / 2 ^ m % 2) (b / 2 ^ m % 2) g (omega arith) (omega arith) in
    ap (λ (x : ℕ). bit_xor x (bit_xor a b / 2 ^ m % 2 * g)) low
    ∙ ap (bit_xor (bit_xor (a * 2 % 2 ^ suc m) (b * 2 % 2 ^ suc m))) high
    ∙ exchange (a * 2 % 2 ^ suc m) (b * 2 % 2 ^ suc m) (a / 2 ^ m % 2 * g) (b / 2 ^ m % 2 * g)

-- ---- q times the generator
abbrev pub four : ℕ → ℕ → ℕ → ℕ → ℕ
four i j k q = bit_xor (bit_xor (q * 2 ^ i) (q * 2 ^ j)) (bit_xor (q * 2 ^ k) q)

four-linear : (i j k a b : ℕ) → four i j k (bit_xor a b) ≡ bit_xor (four i j k a) (four i j k b)
four-linear i j k a b =
    ap (λ (x : ℕ). bit_xor (bit_xor x (bit_xor a b * 2 ^ j)) (bit_xor (bit_xor a b * 2 ^ k) (bit_xor a b))) (scaled i a b)
    ∙ ap (λ (x : ℕ). bit_xor (bit_xor (bit_xor (a * 2 ^ i) (b * 2 ^ i)) x) (bit_xor (bit_xor a b * 2 ^ k) (bit_xor a b))) (scaled j a b)
    ∙ ap (λ (x : ℕ). bit_xor x (bit_xor (bit_xor a b * 2 ^ k) (bit_xor a b))) (exchange (a * 2 ^ i) (b * 2 ^ i) (a * 2 ^ j) (b * 2 ^ j))
    ∙ ap (bit_xor (bit_xor (bit_xor (a * 2 ^ i) (a * 2 ^ j)) (bit_xor (b * 2 ^ i) (b * 2 ^ j))))
    (ap (λ (x : ℕ). bit_xor x (bit_xor a b)) (scaled k a b) ∙ exchange (a * 2 ^ k) (b * 2 ^ k) a b)
    ∙ exchange (bit_xor (a * 2 ^ i) (a * 2 ^ j)) (bit_xor (b * 2 ^ i) (b * 2 ^ j)) (bit_xor (a * 2 ^ k) a) (bit_xor (b * 2 ^ k) b)

four-none : (i j k : ℕ) → four i j k 0 ≡ 0
four-none i j k = four-linear i j k 0 0 ∙ xor_self (four i j k 0)

four-scaled : (i j k n q : ℕ) → four i j k q * 2 ^ n ≡ four i j k (q * 2 ^ n)
four-scaled i j k n q =
    let up : (l : ℕ) → q * 2 ^ l * 2 ^ n ≡ q * 2 ^ n * 2 ^ l = λ l. omega arith in
    scaled n (bit_xor (q * 2 ^ i) (q * 2 ^ j)) (bit_xor (q * 2 ^ k) q)
    ∙ ap (λ (x : ℕ). bit_xor x (bit_xor (q * 2 ^ k) q * 2 ^ n)) (scaled n (q * 2 ^ i) (q * 2 ^ j) ∙ ap (λ (x : ℕ). bit_xor x (q * 2 ^ j * 2 ^ n)) (up i) ∙ ap (bit_xor (q * 2 ^ n * 2 ^ i)) (up j))
    ∙ ap (bit_xor (bit_xor (q * 2 ^ n * 2 ^ i) (q * 2 ^ n * 2 ^ j))) (scaled n (q * 2 ^ k) q ∙ ap (λ (x : ℕ). bit_xor x (q * 2 ^ n)) (up k))

-- ---- a register that divides; `R r bs` is the register after the bits `bs`, if it is `r` before them
pub record Divides (m j k g : ℕ) (R : ℕ → List ℕ → ℕ) : Type 0 where
  pub whole : (y : ℕ) → y < 2 ^ suc m → y * 2 ≡ y / 2 ^ m % 2 * 2 ^ suc m + y * 2 % 2 ^ suc m
  pub rest : (b : ℕ) → b < 2 → b * g ≡ bit_xor (b * 2 ^ j) (bit_xor (b * 2 ^ k) b)
  pub fits : (r : ℕ) → times m g r < 2 ^ suc m
  pub none : (r : ℕ) → R r [] ≡ r
  pub more : (r b : ℕ) (bs : List ℕ) → R r (b ∷ bs) ≡ R (times m g (bit_xor r (b * 2 ^ m))) bs

-- if a term in x ^ (m + 1) arises, the generator is subtracted
times-is : (m j k g : ℕ) (R : ℕ → List ℕ → ℕ) → Divides m j k g R → (y : ℕ) → y < 2 ^ suc m → y * 2 ≡ bit_xor (four (suc m) j k (y / 2 ^ m % 2)) (times m g y)
times-is m j k g R d y fits =
    let b = y / 2 ^ m % 2 in let low = y * 2 % 2 ^ suc m in
    let top = b * 2 ^ suc m in let others = bit_xor (b * 2 ^ j) (bit_xor (b * 2 ^ k) b) in
    let pos = pow_pos (suc m) in
    d.whole y fits ∙ sym (xor_shifted b (suc m) low (omega arith)) ∙ sym (xor_zero_r (bit_xor top low)) ∙ ap (bit_xor (bit_xor top low)) (sym (xor_self others))
    ∙ exchange top low others others
    ∙ ap (λ (x : ℕ). bit_xor x (bit_xor low others)) (sym (xor_assoc top (b * 2 ^ j) (bit_xor (b * 2 ^ k) b)))
    ∙ ap (λ (x : ℕ). bit_xor (four (suc m) j k b) (bit_xor low x)) (sym (d.rest b (omega arith)))

from-more : (m r b n p : ℕ) → bit_xor (bit_xor (b * 2 ^ n) p * 2 ^ suc m) (r * 2 ^ suc n) ≡ bit_xor (p * 2 ^ suc m) (bit_xor r (b * 2 ^ m) * 2 * 2 ^ n)
from-more m r b n p =
    let bit = b * 2 ^ m * 2 * 2 ^ n in let high = r * 2 * 2 ^ n in
    let two : r * 2 ^ suc n ≡ high = ap (λ (x : ℕ). r * x) (pow-suc 2 n) ∙ (let e : r * (2 ^ n * 2) ≡ r * 2 * 2 ^ n = omega arith in e) in
    let up : b * 2 ^ n * 2 ^ suc m ≡ bit = ap (λ (x : ℕ). b * 2 ^ n * x) (pow-suc 2 m) ∙ (let e : b * 2 ^ n * (2 ^ m * 2) ≡ b * 2 ^ m * 2 * 2 ^ n = omega arith in e) in
    let both : bit_xor r (b * 2 ^ m) * 2 * 2 ^ n ≡ bit_xor high bit = ap (λ (x : ℕ). x * 2 ^ n) (scaled 1 r (b * 2 ^ m)) ∙ scaled n (r * 2) (b * 2 ^ m * 2) in
    ap (λ (x : ℕ). bit_xor x (r * 2 ^ suc n)) (scaled (suc m) (b * 2 ^ n) p ∙ ap (λ (x : ℕ). bit_xor x (p * 2 ^ suc m)) up ∙ xor_comm bit (p * 2 ^ suc m))
    ∙ xor_assoc (p * 2 ^ suc m) bit (r * 2 ^ suc n)
    ∙ ap (bit_xor (p * 2 ^ suc m)) (ap (bit_xor bit) two ∙ xor_comm bit high ∙ sym both)

-- the quotient: the term that the first step of the division yields, plus the quotient of the steps after it
pub quotient : ℕ → ℕ → ℕ → List ℕ → ℕ
quotient m g r [] = 0
quotient m g r (b ∷ bs) = bit_xor (bit_xor r (b * 2 ^ m) / 2 ^ m % 2 * 2 ^ length bs) (quotient m g (times m g (bit_xor r (b * 2 ^ m))) bs)

pub divides : (m j k g : ℕ) (R : ℕ → List ℕ → ℕ) → Divides m j k g R → (bs : List ℕ) (r : ℕ) → AreBits bs → r < 2 ^ suc m
    → bit_xor (polynomial bs * 2 ^ suc m) (r * 2 ^ length bs) ≡ bit_xor (four (suc m) j k (quotient m g r bs)) (R r bs)
unfolding quotient AreBits
divides m j k g R d [] r each fits =
    let none : 0 * 2 ^ suc m ≡ 0 = omega arith in let once : r * 1 ≡ r = omega arith in
    ap (λ (x : ℕ). bit_xor x (r * 1)) none ∙ xor_zero_l (r * 1) ∙ once ∙ sym (ap (λ (x : ℕ). bit_xor x (R r [])) (four-none (suc m) j k) ∙ xor_zero_l (R r []) ∙ d.none r)
divides m j k g R d (b ∷ bs) r each fits =
    let n = length bs in let y = bit_xor r (b * 2 ^ m) in let t = times m g y in
    let y_fits : y < 2 ^ suc m = xor_lt (suc m) r (b * 2 ^ m) fits (within _ (1 + m) (suc m) (shl_below b 1 m (each 0)) (omega arith)) in
    let off = four (suc m) j k (y / 2 ^ m % 2 * 2 ^ n) in
    let up : y * 2 * 2 ^ n ≡ bit_xor off (t * 2 ^ n) =
    ap (λ (x : ℕ). x * 2 ^ n) (times-is m j k g R d y y_fits) ∙ scaled n (four (suc m) j k (y / 2 ^ m % 2)) t ∙ ap (λ (x : ℕ). bit_xor x (t * 2 ^ n)) (four-scaled (suc m) j k n (y / 2 ^ m % 2)) in
    let p = polynomial bs * 2 ^ suc m in let q = quotient m g t bs in
    from-more m r b n (polynomial bs)
    ∙ ap (bit_xor p) up
    ∙ sym (xor_assoc p off (t * 2 ^ n)) ∙ ap (λ (x : ℕ). bit_xor x (t * 2 ^ n)) (xor_comm p off) ∙ xor_assoc off p (t * 2 ^ n)
    ∙ ap (bit_xor off) (divides m j k g R d bs t (λ i. each (suc i)) (d.fits y))
    ∙ sym (xor_assoc off (four (suc m) j k q) (R t bs))
    ∙ ap (λ (x : ℕ). bit_xor x (R t bs)) (sym (four-linear (suc m) j k (y / 2 ^ m % 2 * 2 ^ n) q))
    ∙ ap (bit_xor (four (suc m) j k (quotient m g r (b ∷ bs)))) (sym (d.more r b bs))

-- ---- there is no other remainder, since a multiple of the generator without a term in x ^ i or above is 0
low-none : (i j k t q : ℕ) → j < i → k < i → q < 2 ^ t → four i j k q < 2 ^ i → q ≡ 0
low-none i j k zero q j_less k_less less low = omega arith
low-none i j k (suc t) q j_less k_less less low =
    let others = bit_xor (q * 2 ^ j) (bit_xor (q * 2 ^ k) q) in
    let top : q * 2 ^ i ≡ bit_xor (four i j k q) others =
    sym (ap (λ (x : ℕ). bit_xor x others) (xor_assoc (q * 2 ^ i) (q * 2 ^ j) (bit_xor (q * 2 ^ k) q)) ∙ twice (q * 2 ^ i) others) in
    let fits : bit_xor (four i j k q) others < 2 ^ (t + i) =
    xor_lt (t + i) (four i j k q) others (within _ i (t + i) low (omega arith)) (xor_lt (t + i) (q * 2 ^ j) (bit_xor (q * 2 ^ k) q)
    (within _ (suc t + j) (t + i) (shl_below q (suc t) j less) (omega arith))
    (xor_lt (t + i) (q * 2 ^ k) q (within _ (suc t + k) (t + i) (shl_below q (suc t) k less) (omega arith)) (within q (suc t) (t + i) less (omega arith)))) in
    let half = shr_below (q * 2 ^ i) t i (omega arith) in let back = shl-shr q i in
    low-none i j k t q j_less k_less (omega arith) low

below-power : (q : ℕ) → q < 2 ^ q
below-power zero = omega arith
below-power (suc q) = let rest = below-power q in let two : 2 ^ suc q ≡ 2 ^ q * 2 = pow-suc 2 q in omega arith

pub one-remainder : (i j k p q r s : ℕ) → j < i → k < i → r < 2 ^ i → s < 2 ^ i → bit_xor (four i j k p) r ≡ bit_xor (four i j k q) s → r ≡ s
one-remainder i j k p q r s j_less k_less r_fits s_fits e =
    let d = bit_xor p q in
    let none : bit_xor (four i j k d) (bit_xor r s) ≡ 0 =
    ap (λ (x : ℕ). bit_xor x (bit_xor r s)) (four-linear i j k p q) ∙ exchange (four i j k p) (four i j k q) r s
    ∙ ap (λ (x : ℕ). bit_xor x (bit_xor (four i j k q) s)) e ∙ xor_self (bit_xor (four i j k q) s) in
    let is : four i j k d ≡ bit_xor r s = same (four i j k d) (bit_xor r s) none in
    let small : bit_xor r s < 2 ^ i = xor_lt i r s r_fits s_fits in
    let nothing : d ≡ 0 = low-none i j k d d j_less k_less (below-power d) (omega arith) in
    same r s (sym is ∙ ap (four i j k) nothing ∙ four-none i j k)
