-- Lists of bits, their sums place by place, and their numbers of ones.
use Rattle.std.proofs.Common.{◌≡◌, ℕ, zero, suc, ◌+◌, ◌<◌, ◌≤◌, ◌==◌, if◌then◌else◌, List, [], ◌∷◌, ◌++◌, bit_xor, length, take, refl, ap, sym, ◌∙◌, arith, replicate}
use Rattle.std.proofs.lemmas.List.{length-replicate, take-replicate}
use Rattle.tc_edges.proofs.CltuLemmas.Names.{again, differences, same, xor_lt}
use lib.Bits.{xor_zero_r, xor_zero_l}

-- each number is 0 or 1
abbrev pub AreBits : List ℕ → Type 0
AreBits [] = Unit {0}
AreBits (b ∷ bs) = (b < 2) × AreBits bs

unfoldable pub xors : List ℕ → List ℕ → List ℕ
xors [] cs = []
xors (b ∷ bs) [] = []
xors (b ∷ bs) (c ∷ cs) = bit_xor b c ∷ xors bs cs

unfoldable pub weight : List ℕ → ℕ
weight [] = 0
weight (b ∷ bs) = b + weight bs

abbrev pub zeros : ℕ → List ℕ
zeros n = replicate n 0

-- `n` bits, of which only bit `k` is 1, where the first bit is bit 0
unfoldable pub single : ℕ → ℕ → List ℕ
single k zero = []
single zero (suc n) = 1 ∷ zeros n
single (suc k) (suc n) = 0 ∷ single k n

pub xors-length : (bs cs : List ℕ) → length bs ≡ length cs → length (xors bs cs) ≡ length bs
unfolding xors
xors-length [] cs e = refl
xors-length (b ∷ bs) [] e = absurd (omega arith)
xors-length (b ∷ bs) (c ∷ cs) e = let rest = xors-length bs cs (omega arith) in omega arith

pub xors-bits : (bs cs : List ℕ) → AreBits bs → AreBits cs → AreBits (xors bs cs)
unfolding xors
xors-bits (b ∷ bs) (c ∷ cs) p q = (xor_lt 1 b c p.0 q.0, xors-bits bs cs p.1 q.1)
xors-bits _ _ p q = tt

pub zeros-bits : (n : ℕ) → AreBits (zeros n)
zeros-bits zero = tt
zeros-bits (suc n) = (omega arith, zeros-bits n)

pub zeros-length : (n : ℕ) → length (zeros n) ≡ n
zeros-length n = length-replicate n 0

pub single-length : (k n : ℕ) → length (single k n) ≡ n
unfolding single
single-length k zero = refl
single-length zero (suc n) = let rest = zeros-length n in omega arith
single-length (suc k) (suc n) = let rest = single-length k n in omega arith

pub zeros-weight : (n : ℕ) → weight (zeros n) ≡ 0
unfolding weight
zeros-weight zero = refl
zeros-weight (suc n) = let rest = zeros-weight n in omega arith

pub single-weight : (k n : ℕ) → k < n → weight (single k n) ≡ 1
unfolding single weight
single-weight k zero less = absurd (omega arith)
single-weight zero (suc n) less = let rest = zeros-weight n in omega arith
single-weight (suc k) (suc n) less = let rest = single-weight k n (omega arith) in omega arith

-- ---- lists of bits with no ones, with a single one, and with two ones
none-is : (e : List ℕ) → AreBits e → weight e ≡ 0 → e ≡ zeros (length e)
unfolding weight
none-is [] p h = refl
none-is (b ∷ bs) p h =
    let head : b ≡ 0 = omega arith in
    let tail = none-is bs p.1 (omega arith) in
    cc

pub one-is : (e : List ℕ) → AreBits e → weight e ≡ 1 → (k : ℕ) × (k < length e) × (e ≡ single k (length e))
unfolding single weight
one-is (zero ∷ bs) p h = let rest = one-is bs p.1 (omega arith) in (suc rest.0, omega arith, ap (λ (x : List ℕ). 0 ∷ x) rest.2)
one-is (suc zero ∷ bs) p h = let rest = none-is bs p.1 (omega arith) in (0, omega arith, ap (λ (x : List ℕ). 1 ∷ x) rest)
one-is _ p h = absurd (omega arith)

pub zeros-xors : (e : List ℕ) → xors (zeros (length e)) e ≡ e
unfolding xors
zeros-xors [] = refl
zeros-xors (b ∷ bs) = ap (λ (x : ℕ). x ∷ xors (zeros (length bs)) bs) (xor_zero_l b) ∙ ap (λ (x : List ℕ). b ∷ x) (zeros-xors bs)

pub two-is : (e : List ℕ) → AreBits e → weight e ≡ 2 → (i : ℕ) × (j : ℕ) × (i < j) × (j < length e) × (e ≡ xors (single i (length e)) (single j (length e)))
unfolding single weight xors
two-is (zero ∷ bs) p h =
    let rest = two-is bs p.1 (omega arith) in (suc rest.0, suc rest.1, omega arith, omega arith, ap (λ (x : List ℕ). 0 ∷ x) rest.4)
two-is (suc zero ∷ bs) p h =
    let rest = one-is bs p.1 (omega arith) in
    let tail : bs ≡ xors (zeros (length bs)) (single rest.0 (length bs)) = sym (zeros-xors bs) ∙ ap (xors (zeros (length bs))) rest.2 in
    (0, suc rest.0, omega arith, omega arith, ap (λ (x : List ℕ). 1 ∷ x) tail)
two-is _ p h = absurd (omega arith)

-- two bits differ if and only if their sum is 1, and so two lists differ in as many places as their sum has ones
place : (b c : ℕ) → b < 2 → c < 2 → (if b == c then 0 else 1) ≡ bit_xor b c
place (suc (suc b)) c p q = absurd (omega arith)
place b (suc (suc c)) p q = absurd (omega arith)
place _ _ p q = refl

pub differences-weight : (bs cs : List ℕ) → AreBits bs → AreBits cs → differences bs cs ≡ weight (xors bs cs)
unfolding xors weight
differences-weight (b ∷ bs) (c ∷ cs) p q =
    let first = place b c p.0 q.0 in let rest = differences-weight bs cs p.1 q.1 in omega arith
differences-weight _ _ p q = refl

pub none-same : (bs cs : List ℕ) → length bs ≡ length cs → AreBits bs → AreBits cs → differences bs cs ≡ 0 → bs ≡ cs
none-same [] [] l p q h = refl
none-same (b ∷ bs) (c ∷ cs) l p q h =
    let first = place b c p.0 q.0 in
    let head : b ≡ c = same b c (omega arith) in
    let tail = none-same bs cs (omega arith) p.1 q.1 (omega arith) in
    cc
none-same _ _ l p q h = absurd (omega arith)

-- The number of places in which two lists differ is at most the sum of the numbers of places in which each of them
-- differs from a third list. The first lemma states this for single bits.
triple : (b c d : ℕ) → b < 2 → c < 2 → d < 2 → (if b == d then 0 else 1) ≤ (if c == b then 0 else 1) + (if c == d then 0 else 1)
triple (suc (suc b)) c d p q r = absurd (omega arith)
triple b (suc (suc c)) d p q r = absurd (omega arith)
triple b c (suc (suc d)) p q r = absurd (omega arith)
triple _ _ _ p q r = omega arith

pub by-way : (bs cs ds : List ℕ) → length bs ≡ length cs → length cs ≡ length ds → AreBits bs → AreBits cs → AreBits ds
    → differences bs ds ≤ differences cs bs + differences cs ds
by-way [] [] [] l m p q r = omega arith
by-way (b ∷ bs) (c ∷ cs) (d ∷ ds) l m p q r =
    let first = triple b c d p.0 q.0 r.0 in let rest = by-way bs cs ds (omega arith) (omega arith) p.1 q.1 r.1 in omega arith
by-way _ _ _ l m p q r = absurd (omega arith)

pub xors-back : (bs cs : List ℕ) → length bs ≡ length cs → xors bs (xors bs cs) ≡ cs
unfolding xors
xors-back [] [] l = refl
xors-back (b ∷ bs) (c ∷ cs) l =
    ap (λ (x : ℕ). x ∷ xors bs (xors bs cs)) (again b c) ∙ ap (λ (x : List ℕ). c ∷ x) (xors-back bs cs (omega arith))
xors-back _ _ l = absurd (omega arith)

pub xors-append : (bs cs ds es : List ℕ) → length bs ≡ length ds → xors (bs ++ cs) (ds ++ es) ≡ xors bs ds ++ xors cs es
unfolding xors
xors-append [] cs [] es l = refl
xors-append (b ∷ bs) cs (d ∷ ds) es l = ap (λ (x : List ℕ). bit_xor b d ∷ x) (xors-append bs cs ds es (omega arith))
xors-append _ cs _ es l = absurd (omega arith)

pub xors-zeros : (e : List ℕ) → xors e (zeros (length e)) ≡ e
unfolding xors
xors-zeros [] = refl
xors-zeros (b ∷ bs) = ap (λ (x : ℕ). x ∷ xors bs (zeros (length bs))) (xor_zero_r b) ∙ ap (λ (x : List ℕ). b ∷ x) (xors-zeros bs)

pub xors-take : (n : ℕ) (bs cs : List ℕ) → take n (xors bs cs) ≡ xors (take n bs) (take n cs)
unfolding xors
xors-take (suc n) (b ∷ bs) (c ∷ cs) = ap (λ (x : List ℕ). bit_xor b c ∷ x) (xors-take n bs cs)
xors-take _ _ _ = refl

pub single-take : (k m n : ℕ) → m ≤ n → take m (single k n) ≡ single k m
unfolding single
single-take k zero n less = refl
single-take k (suc m) zero less = absurd (omega arith)
single-take zero (suc m) (suc n) less = ap (λ (x : List ℕ). 1 ∷ x) (take-replicate m n 0 (omega arith))
single-take (suc k) (suc m) (suc n) less = ap (λ (x : List ℕ). 0 ∷ x) (single-take k m n (omega arith))
