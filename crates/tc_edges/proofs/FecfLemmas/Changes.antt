-- The changes of bits that the remainder detects.
use Rattle.std.proofs.Common.{◌≡◌, ◌≢◌, ◌⊎◌, ℕ, zero, suc, ◌+◌, ◌-◌, ◌*◌, ◌%◌, ◌^◌, ◌<◌, ◌≤◌, Bool, true, eqb, not, ◌&&◌, List, [], ◌∷◌, bit_xor, length, get_or, drop, refl, ap, sym, ◌∙◌, arith, inl, inr}
use Rattle.std.proofs.lemmas.Nat.{pow-add, xor_lt, xor_mod, xor_comm}
use Rattle.std.proofs.Math.Nat.{pow-suc, add-mul, mul_assoc}
use Rattle.tc_edges.proofs.FecfLemmas.Names.{IsOctets, Passes, SameBits, SameOctets, bits, bits_of, octet_bits, remainder, times_x, with_bit, xor_self, xor_shifted, xor_zero_l, xor_zero_r}
use Rattle.std.proofs.lemmas.Bool.{and_from, and_parts, cases_eq, cases_order}
use Rattle.tc_edges.proofs.FecfLemmas.Linear.{times_x-linear, times_x-fits}
use Rattle.tc_edges.proofs.FecfLemmas.Polynomials.{AreBits, exchange, scaled, same, twice}

-- ---- times x
times_x-odd : (y : ℕ) → times_x y % 2 ≡ bits y 15 1
unfolding times_x
times_x-odd y =
    xor_mod (y * 2 % 2 ^ 16) (bits y 15 1 * 4129) 1
    ∙ ap (λ (x : ℕ). bit_xor x (bits y 15 1 * 4129 % 2)) (let e : y * 2 % 2 ^ 16 % 2 ≡ 0 = omega arith in e)
    ∙ xor_zero_l (bits y 15 1 * 4129 % 2)
    ∙ omega arith

pub times_x-low : (y : ℕ) → y < 2 ^ 15 → times_x y ≡ y * 2
unfolding times_x
times_x-low y low =
    ap (λ (x : ℕ). bit_xor (y * 2 % 2 ^ 16) (x * 4129)) (let e : bits y 15 1 ≡ 0 = omega arith in e)
    ∙ xor_zero_r (y * 2 % 2 ^ 16)
    ∙ omega arith

even-low : (y : ℕ) → y < 2 ^ 16 → times_x y % 2 ≡ 0 → y < 2 ^ 15
even-low y fits even = let odd = times_x-odd y in omega arith

times_x-zero : (y : ℕ) → y < 2 ^ 16 → times_x y ≡ 0 → y ≡ 0
times_x-zero y fits none =
    let low : y < 2 ^ 15 = even-low y fits (omega arith) in
    let e = times_x-low y low in omega arith

-- ---- two registers side by side
pub apart : (r s b c : ℕ) → bit_xor (with_bit r b) (with_bit s c) ≡ times_x (bit_xor (bit_xor r s) (bit_xor b c * 2 ^ 15))
apart r s b c =
    sym (times_x-linear (bit_xor r (b * 2 ^ 15)) (bit_xor s (c * 2 ^ 15)))
    ∙ ap times_x (exchange r (b * 2 ^ 15) s (c * 2 ^ 15) ∙ ap (bit_xor (bit_xor r s)) (sym (scaled 15 b c)))

fits-with : (d e : ℕ) → d < 2 ^ 16 → e < 2 → bit_xor d (e * 2 ^ 15) < 2 ^ 16
fits-with d e d_fits e_fits = xor_lt 16 d (e * 2 ^ 15) d_fits (omega arith)

-- If one more bit for each of two registers makes the registers equal, they differed before in nothing but the highest
-- bit, and in that bit only if the two bits differ.
back-one : (r s b c : ℕ) → r < 2 ^ 16 → s < 2 ^ 16 → b < 2 → c < 2 → with_bit r b ≡ with_bit s c → bit_xor r s ≡ bit_xor b c * 2 ^ 15
back-one r s b c r_fits s_fits b_fits c_fits e =
    same (bit_xor r s) (bit_xor b c * 2 ^ 15)
    (times_x-zero (bit_xor (bit_xor r s) (bit_xor b c * 2 ^ 15)) (fits-with (bit_xor r s) (bit_xor b c) (xor_lt 16 r s r_fits s_fits) (xor_lt 1 b c b_fits c_fits))
    (sym (apart r s b c) ∙ ap (λ (x : ℕ). bit_xor x (with_bit s c)) e ∙ xor_self (with_bit s c)))

unfoldable pub Alike : List ℕ → List ℕ → ℕ → Type 0
Alike bs cs k = get_or bs k 0 ≡ get_or cs k 0

-- if two registers become equal through alike bits, the registers and the bits were equal before
pub back : (bs cs : List ℕ) → length bs ≡ length cs → AreBits bs → AreBits cs → (r s : ℕ) → r < 2 ^ 16 → s < 2 ^ 16 → ((k : ℕ) → Alike bs cs k)
    → remainder r bs ≡ remainder s cs → (r ≡ s) × (bs ≡ cs)
unfolding AreBits Alike
back [] [] lengths bits_b bits_c r s r_fits s_fits alike e = (e, refl)
back (b ∷ bs) (c ∷ cs) lengths bits_b bits_c r s r_fits s_fits alike e =
    let rest = back bs cs (omega arith) (λ k. bits_b (suc k)) (λ k. bits_c (suc k)) (with_bit r b) (with_bit s c) (times_x-fits _) (times_x-fits _) (λ k. alike (suc k)) e in
    let head : b ≡ c = alike 0 in
    let d : bit_xor r s ≡ bit_xor b c * 2 ^ 15 = back-one r s b c r_fits s_fits (bits_b 0) (bits_c 0) rest.0 in
    let none : bit_xor b c ≡ 0 = ap (λ (x : ℕ). bit_xor x c) head ∙ xor_self c in
    let tails = rest.1 in
    (same r s (omega arith), cc)
back _ _ lengths bits_b bits_c r s r_fits s_fits alike e = absurd (omega arith)

-- Let no bits differ except perhaps the first `n`, and let the registers become equal. Then the registers differed at
-- most in their `n` high bits before. If the registers were equal before, the bits are equal, too.
window : (n p : ℕ) → n + p ≡ 16 → (bs cs : List ℕ) → length bs ≡ length cs → AreBits bs → AreBits cs → (r s : ℕ) → r < 2 ^ 16 → s < 2 ^ 16
    → ((k : ℕ) → n ≤ k → Alike bs cs k) → remainder r bs ≡ remainder s cs
    → ((q : ℕ) × (bit_xor r s ≡ q * 2 ^ p)) × (r ≡ s → bs ≡ cs)
unfolding AreBits Alike
window zero p sixteen bs cs lengths bits_b bits_c r s r_fits s_fits alike e =
    let b = back bs cs lengths bits_b bits_c r s r_fits s_fits (λ k. alike k (omega arith)) e in
    let tails = b.1 in
    ((0, ap (λ (x : ℕ). bit_xor x s) b.0 ∙ xor_self s ∙ omega arith), λ _. tails)
window (suc n) p sixteen [] [] lengths bits_b bits_c r s r_fits s_fits alike e =
    ((0, ap (λ (x : ℕ). bit_xor x s) e ∙ xor_self s ∙ omega arith), λ _. refl)
window (suc n) p sixteen (b ∷ bs) (c ∷ cs) lengths bits_b bits_c r s r_fits s_fits alike e =
    let b_fits : b < 2 = bits_b 0 in let c_fits : c < 2 = bits_c 0 in
    let differ = bit_xor b c in
    let differ_fits : differ < 2 = xor_lt 1 b c b_fits c_fits in
    let rest = window n (suc p) (omega arith) bs cs (omega arith) (λ k. bits_b (suc k)) (λ k. bits_c (suc k)) (with_bit r b) (with_bit s c) (times_x-fits _) (times_x-fits _)
    (λ k more. alike (suc k) (omega arith)) e in
    let q = rest.0.0 in
    let y = bit_xor (bit_xor r s) (differ * 2 ^ 15) in
    let next : times_x y ≡ q * 2 ^ p * 2 = sym (apart r s b c) ∙ rest.0.1 ∙ ap (λ (x : ℕ). q * x) (pow-suc 2 p) ∙ sym (mul_assoc q (2 ^ p) 2) in
    let y_fits : y < 2 ^ 16 = fits-with (bit_xor r s) differ (xor_lt 16 r s r_fits s_fits) differ_fits in
    let y_low : y < 2 ^ 15 = even-low y y_fits (omega arith) in
    let doubled : times_x y ≡ y * 2 = times_x-low y y_low in
    let y_is : y ≡ q * 2 ^ p = omega arith in
    let d_is : bit_xor r s ≡ differ * 2 ^ 15 + y =
    sym (twice (bit_xor r s) (differ * 2 ^ 15)) ∙ xor_comm y (differ * 2 ^ 15) ∙ xor_shifted differ 15 y y_low in
    let places : 15 ≡ n + p = omega arith in
    let power : 2 ^ 15 ≡ 2 ^ n * 2 ^ p = ap (λ (x : ℕ). 2 ^ x) places ∙ pow-add 2 n p in
    let multiple : differ * 2 ^ 15 + y ≡ (differ * 2 ^ n + q) * 2 ^ p =
    ap (λ (x : ℕ). x + y) (ap (λ (x : ℕ). differ * x) power ∙ sym (mul_assoc differ (2 ^ n) (2 ^ p))) ∙ ap (λ (x : ℕ). differ * 2 ^ n * 2 ^ p + x) y_is ∙ sym (add-mul (differ * 2 ^ n) q (2 ^ p)) in (
      (differ * 2 ^ n + q, d_is ∙ multiple),
      λ alike_so_far.
          let none : bit_xor r s ≡ 0 = ap (λ (x : ℕ). bit_xor x s) alike_so_far ∙ xor_self s in
          let heads : b ≡ c = same b c (omega arith) in
          let tails : bs ≡ cs = rest.1 (same (with_bit r b) (with_bit s c) (apart r s b c ∙ omega arith)) in
          cc,
    )
window (suc n) p sixteen _ _ lengths bits_b bits_c r s r_fits s_fits alike e = absurd (omega arith)

-- if only the 16 bits from place `i` on may differ and the remainders are equal, no bit differs
pub burst : (i : ℕ) (bs cs : List ℕ) → length bs ≡ length cs → AreBits bs → AreBits cs → (r : ℕ) → r < 2 ^ 16
    → ((k : ℕ) → (k < i) ⊎ (i + 16 ≤ k) → Alike bs cs k) → remainder r bs ≡ remainder r cs → bs ≡ cs
unfolding AreBits Alike
burst zero bs cs lengths bits_b bits_c r r_fits alike e =
    let w = window 16 0 refl bs cs lengths bits_b bits_c r r r_fits r_fits (λ k more. alike k (inr (omega arith))) e in w.1 refl
burst (suc i) [] [] lengths bits_b bits_c r r_fits alike e = refl
burst (suc i) (b ∷ bs) (c ∷ cs) lengths bits_b bits_c r r_fits alike e =
    let heads : b ≡ c = alike 0 (inl (omega arith)) in
    let tails : bs ≡ cs = burst i bs cs (omega arith) (λ k. bits_b (suc k)) (λ k. bits_c (suc k)) (with_bit r b) (times_x-fits _)
    (λ k where_k. alike (suc k) (elim where_k [ inl before ↦ inl (omega arith) | inr after ↦ inr (omega arith) ])) (e ∙ ap (λ (x : ℕ). remainder (with_bit r x) cs) (sym heads)) in
    cc
burst (suc i) _ _ lengths bits_b bits_c r r_fits alike e = absurd (omega arith)

-- ---- two bits
-- whether a difference of two registers isn't 0 and can't be undone by one more bit
open_sum : ℕ → Bool
open_sum d = not (eqb d 0) && not (eqb d 32768)

-- whether `open_sum` is true of d, and of d times x, x ^ 2, .., x ^ (n - 1) modulo G
stays : ℕ → ℕ → Bool
stays zero d = true
stays (suc n) d = open_sum d && stays n (times_x d)

-- x ^ k isn't 1 modulo G for 0 < k < 32767, as a computation shows
long : stays 32766 (times_x 32768) ≡ true
unfolding stays open_sum times_x
long = refl

stays-less : (n m d : ℕ) → n ≤ m → stays m d ≡ true → stays n d ≡ true
unfolding stays
stays-less zero m d less h = refl
stays-less (suc n) zero d less h = absurd (omega arith)
stays-less (suc n) (suc m) d less h =
    let parts = and_parts (open_sum d) (stays m (times_x d)) h in
    and_from (open_sum d) (stays n (times_x d)) parts.0 (stays-less n m (times_x d) (omega arith) parts.1)

shut : (d e : ℕ) → e < 2 → d ≡ e * 2 ^ 15 → open_sum d ≡ true → ⊥
unfolding open_sum
shut d zero fits is h = let f : open_sum d ≡ open_sum 0 = ap open_sum is in cc
shut d (suc zero) fits is h = let f : open_sum d ≡ open_sum 32768 = ap open_sum is in cc
shut d (suc (suc e)) fits is h = omega arith

-- Let no bits differ except perhaps those at place `n`. The registers can't become equal if `open_sum` is true of their
-- difference d, and of d times x, x ^ 2, .., x ^ n modulo G.
later : (n : ℕ) (bs cs : List ℕ) → length bs ≡ length cs → AreBits bs → AreBits cs → (r s : ℕ) → r < 2 ^ 16 → s < 2 ^ 16
    → ((k : ℕ) → k ≢ n → Alike bs cs k) → stays (suc n) (bit_xor r s) ≡ true → remainder r bs ≡ remainder s cs → ⊥
unfolding AreBits Alike stays
later n [] [] lengths bits_b bits_c r s r_fits s_fits alike h e =
    shut (bit_xor r s) 0 (omega arith) (ap (λ (x : ℕ). bit_xor x s) e ∙ xor_self s) (and_parts (open_sum (bit_xor r s)) _ h).0
later zero (b ∷ bs) (c ∷ cs) lengths bits_b bits_c r s r_fits s_fits alike h e =
    let rest = back bs cs (omega arith) (λ k. bits_b (suc k)) (λ k. bits_c (suc k)) (with_bit r b) (with_bit s c) (times_x-fits _) (times_x-fits _)
    (λ k. alike (suc k) (λ z. omega arith)) e in
    shut (bit_xor r s) (bit_xor b c) (xor_lt 1 b c (bits_b 0) (bits_c 0)) (back-one r s b c r_fits s_fits (bits_b 0) (bits_c 0) rest.0) (and_parts (open_sum (bit_xor r s)) _ h).0
later (suc n) (b ∷ bs) (c ∷ cs) lengths bits_b bits_c r s r_fits s_fits alike h e =
    let head : b ≡ c = alike 0 (λ z. omega arith) in
    let none : bit_xor b c * 2 ^ 15 ≡ 0 = ap (λ (x : ℕ). x * 2 ^ 15) (ap (λ (x : ℕ). bit_xor x c) head ∙ xor_self c) in
    let next : bit_xor (with_bit r b) (with_bit s c) ≡ times_x (bit_xor r s) =
    apart r s b c ∙ ap times_x (ap (bit_xor (bit_xor r s)) none ∙ xor_zero_r (bit_xor r s)) in
    later n bs cs (omega arith) (λ k. bits_b (suc k)) (λ k. bits_c (suc k)) (with_bit r b) (with_bit s c) (times_x-fits _) (times_x-fits _)
    (λ k other. alike (suc k) (λ z. other (omega arith)))
    (ap (stays (suc n)) next ∙ (and_parts (open_sum (bit_xor r s)) (stays (suc n) (times_x (bit_xor r s))) h).1) e
later n _ _ lengths bits_b bits_c r s r_fits s_fits alike h e = omega arith

-- One differing bit has set two registers apart. If only one of the next 32,766 bits may differ, the registers can't
-- become equal again.
pub later-near : (n : ℕ) → n < 32766 → (bs cs : List ℕ) → length bs ≡ length cs → AreBits bs → AreBits cs → (r s : ℕ) → r < 2 ^ 16 → s < 2 ^ 16
    → ((k : ℕ) → k ≢ n → Alike bs cs k) → bit_xor r s ≡ times_x 32768 → remainder r bs ≡ remainder s cs → ⊥
later-near n near bs cs lengths bits_b bits_c r s r_fits s_fits alike one e =
    later n bs cs lengths bits_b bits_c r s r_fits s_fits alike (ap (stays (suc n)) one ∙ stays-less (suc n) 32766 (times_x 32768) (omega arith) long) e

pub different : (b c : ℕ) → b < 2 → c < 2 → b ≢ c → bit_xor b c ≡ 1
different zero (suc zero) b_fits c_fits ne = refl
different (suc zero) zero b_fits c_fits ne = refl
different (suc (suc b)) c b_fits c_fits ne = absurd (omega arith)
different b (suc (suc c)) b_fits c_fits ne = absurd (omega arith)
different _ _ b_fits c_fits ne = absurd (ne refl)

-- two lists with equal remainders are equal if they may differ only at two places that are less than 32,767 bits apart
pub two : (i n : ℕ) → n < 32766 → (bs cs : List ℕ) → length bs ≡ length cs → AreBits bs → AreBits cs → (r : ℕ) → r < 2 ^ 16
    → ((k : ℕ) → k ≢ i → k ≢ i + suc n → Alike bs cs k) → remainder r bs ≡ remainder r cs → bs ≡ cs
unfolding AreBits Alike
two i n near [] [] lengths bits_b bits_c r r_fits alike e = refl
two zero n near (b ∷ bs) (c ∷ cs) lengths bits_b bits_c r r_fits alike e =
    elim (cases_eq b c) [
      | inl heads ↦
          let tails : bs ≡ cs = burst n bs cs (omega arith) (λ k. bits_b (suc k)) (λ k. bits_c (suc k)) (with_bit r b) (times_x-fits _)
          (λ k where_k. alike (suc k) (λ z. omega arith) (λ z. elim where_k [ inl before ↦ omega arith | inr after ↦ omega arith ])) (e ∙ ap (λ (x : ℕ). remainder (with_bit r x) cs) (sym heads)) in
          cc
      | inr ne ↦
          let one : bit_xor (with_bit r b) (with_bit r c) ≡ times_x 32768 =
          apart r r b c ∙ ap times_x (ap (λ (x : ℕ). bit_xor x (bit_xor b c * 2 ^ 15)) (xor_self r) ∙ ap (λ (x : ℕ). x * 2 ^ 15) (different b c (bits_b 0) (bits_c 0) ne)) in
          absurd (later n bs cs (omega arith) (λ k. bits_b (suc k)) (λ k. bits_c (suc k)) (with_bit r b) (with_bit r c) (times_x-fits _) (times_x-fits _)
          (λ k other. alike (suc k) (λ z. omega arith) (λ z. other (omega arith)))
          (ap (stays (suc n)) one ∙ stays-less (suc n) 32766 (times_x 32768) (omega arith) long) e)
    ]
two (suc i) n near (b ∷ bs) (c ∷ cs) lengths bits_b bits_c r r_fits alike e =
    let heads : b ≡ c = alike 0 (λ z. omega arith) (λ z. omega arith) in
    let tails : bs ≡ cs = two i n near bs cs (omega arith) (λ k. bits_b (suc k)) (λ k. bits_c (suc k)) (with_bit r b) (times_x-fits _)
    (λ k first second. alike (suc k) (λ z. first (omega arith)) (λ z. second (omega arith))) (e ∙ ap (λ (x : ℕ). remainder (with_bit r x) cs) (sym heads)) in
    cc
two i n near _ _ lengths bits_b bits_c r r_fits alike e = absurd (omega arith)

-- ---- octets
pub bits-bits : (os : List ℕ) → AreBits (bits_of os)
unfolding AreBits octet_bits
bits-bits [] zero = omega arith
bits-bits (o ∷ os) (suc (suc (suc (suc (suc (suc (suc (suc k)))))))) = bits-bits os k
bits-bits _ _ = omega arith

pub bits-length : (one other : List ℕ) → length one ≡ length other → length (bits_of one) ≡ length (bits_of other)
unfolding octet_bits
bits-length [] [] e = refl
bits-length (o ∷ os) (p ∷ ps) e =
    let f = bits-length os ps (omega arith) in ap (λ (x : ℕ). suc (suc (suc (suc (suc (suc (suc (suc x)))))))) f
bits-length _ _ e = absurd (omega arith)

octet-alike : (o p : ℕ) → o < 256 → p < 256 → bits o 7 1 ≡ bits p 7 1 → bits o 6 1 ≡ bits p 6 1 → bits o 5 1 ≡ bits p 5 1 → bits o 4 1 ≡ bits p 4 1
    → bits o 3 1 ≡ bits p 3 1 → bits o 2 1 ≡ bits p 2 1 → bits o 1 1 ≡ bits p 1 1 → bits o 0 1 ≡ bits p 0 1 → o ≡ p
octet-alike o p o_fits p_fits a b c d e f g h = omega arith

pub bits-same : (one other : List ℕ) → IsOctets one → IsOctets other → length one ≡ length other → bits_of one ≡ bits_of other → one ≡ other
unfolding octet_bits
bits-same [] [] each_one each_other lengths e = refl
bits-same (o ∷ os) (p ∷ ps) each_one each_other lengths e =
    let at : (k : ℕ) → get_or (bits_of (o ∷ os)) k 0 ≡ get_or (bits_of (p ∷ ps)) k 0 = λ k. ap (λ (x : List ℕ). get_or x k 0) e in
    let head : o ≡ p = octet-alike o p (each_one 0) (each_other 0) (at 0) (at 1) (at 2) (at 3) (at 4) (at 5) (at 6) (at 7) in
    let tail : os ≡ ps = bits-same os ps (λ k. each_one (suc k)) (λ k. each_other (suc k)) (omega arith) (ap (λ (x : List ℕ). drop 8 x) e) in
    cc
bits-same _ _ each_one each_other lengths e = absurd (omega arith)

-- ---- the laws
pub burst-detected : (one other : List ℕ) (i : ℕ) → SameOctets one other → SameBits one other (λ k. (k < i) ⊎ (i + 16 ≤ k)) → Passes one → Passes other → one ≡ other
unfolding AreBits Alike
burst-detected one other i is alike passes_one passes_other =
    bits-same one other is.each_one is.each_other is.length
    (burst i (bits_of one) (bits_of other) (bits-length one other is.length) (bits-bits one) (bits-bits other) 65535 (omega arith) alike (passes_one ∙ sym passes_other))

two-ordered : (one other : List ℕ) (i j : ℕ) → i < j → j < i + 32767 → SameOctets one other → SameBits one other (λ k. (k ≢ i) × (k ≢ j)) → Passes one → Passes other → one ≡ other
unfolding AreBits Alike
two-ordered one other i j less near is alike passes_one passes_other =
    bits-same one other is.each_one is.each_other is.length
    (two i (j - i - 1) (omega arith) (bits_of one) (bits_of other) (bits-length one other is.length) (bits-bits one) (bits-bits other) 65535 (omega arith)
    (λ k first second. alike k (first, λ z. second (omega arith))) (passes_one ∙ sym passes_other))

pub two-detected : (one other : List ℕ) (i j : ℕ) → j < i + 32767 → i < j + 32767 → SameOctets one other → SameBits one other (λ k. (k ≢ i) × (k ≢ j)) → Passes one → Passes other → one ≡ other
two-detected one other i j near near_too is alike passes_one passes_other =
    elim (cases_order i j) [
      | inl e ↦ burst-detected one other i is (λ k where_k. alike k
          ((λ z. elim where_k [ inl before ↦ omega arith | inr after ↦ omega arith ]), (λ z. elim where_k [ inl before ↦ omega arith | inr after ↦ omega arith ]))) passes_one passes_other
      | inr ne ↦ elim ne [
        | inl less ↦ two-ordered one other i j less near is alike passes_one passes_other
        | inr more ↦ two-ordered one other j i more near_too is (λ k p. alike k (p.1, p.0)) passes_one passes_other
      ]
    ]
