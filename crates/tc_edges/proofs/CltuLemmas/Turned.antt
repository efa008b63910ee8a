-- Code blocks with some bits inverted.
use Rattle.std.proofs.Common.{◌≡◌, ℕ, zero, suc, ◌<◌, ◌==◌, if◌then◌else◌, List, [], ◌∷◌, bit_xor, length, refl, ap, sym, ◌∙◌, arith}
use Rattle.tc_edges.proofs.CltuLemmas.Names.{IsInformation, code_block, differences, errors, flipped, word, xor_assoc}
use Rattle.tc_edges.proofs.CltuLemmas.Patterns.{AreBits, xors, weight, zeros, single, xors-bits, xors-length, zeros-bits, zeros-xors, single-length, single-weight}
use Rattle.tc_edges.proofs.CltuLemmas.Words.{word-turned}
use Rattle.tc_edges.proofs.CltuLemmas.Distance.{word-bits, code-length}
use Rattle.tc_edges.proofs.CltuLemmas.Taking.{turned-length}

xors-assoc : (bs cs ds : List ℕ) → xors (xors bs cs) ds ≡ xors bs (xors cs ds)
unfolding xors
xors-assoc (b ∷ bs) (c ∷ cs) (d ∷ ds) =
    ap (λ (x : ℕ). x ∷ xors (xors bs cs) ds) (xor_assoc b c d) ∙ ap (λ (x : List ℕ). bit_xor b (bit_xor c d) ∷ x) (xors-assoc bs cs ds)
xors-assoc _ _ _ = refl

-- Adding a bit 1 changes a bit, and adding a bit 0 doesn't. So adding a list of bits changes as many bits as the list has
-- ones.
place-sum : (c e : ℕ) → c < 2 → e < 2 → (if bit_xor c e == c then 0 else 1) ≡ e
place-sum (suc (suc c)) e p q = absurd (omega arith)
place-sum c (suc (suc e)) p q = absurd (omega arith)
place-sum _ _ p q = refl

differences-sum : (cs es : List ℕ) → length cs ≡ length es → AreBits cs → AreBits es → differences (xors cs es) cs ≡ weight es
unfolding xors weight
differences-sum [] [] l p q = refl
differences-sum (c ∷ cs) (e ∷ es) l p q =
    let first = place-sum c e p.0 q.0 in let rest = differences-sum cs es (omega arith) p.1 q.1 in omega arith
differences-sum _ _ l p q = absurd (omega arith)

-- ---- one, two and three inverted bits
single-bits : (k n : ℕ) → AreBits (single k n)
unfolding single
single-bits k zero = tt
single-bits zero (suc n) = (omega arith, zeros-bits n)
single-bits (suc k) (suc n) = (omega arith, single-bits k n)

none-added : (k n : ℕ) → xors (zeros n) (single k n) ≡ single k n
none-added k n = ap (λ (m : ℕ). xors (zeros m) (single k n)) (sym (single-length k n)) ∙ zeros-xors (single k n)

two-ones : (i j n : ℕ) → i < j → j < n → weight (xors (single i n) (single j n)) ≡ 2
unfolding single xors weight
two-ones i j zero before less = absurd (omega arith)
two-ones i zero (suc n) before less = absurd (omega arith)
two-ones zero (suc j) (suc n) before less =
    let rest : weight (xors (zeros n) (single j n)) ≡ 1 = ap weight (none-added j n) ∙ single-weight j n (omega arith) in omega arith
two-ones (suc i) (suc j) (suc n) before less = let rest = two-ones i j n (omega arith) (omega arith) in omega arith

three-ones : (i j k n : ℕ) → i < j → j < k → k < n → weight (xors (xors (single i n) (single j n)) (single k n)) ≡ 3
unfolding single xors weight
three-ones i j k zero before next less = absurd (omega arith)
three-ones i j zero (suc n) before next less = absurd (omega arith)
three-ones i zero (suc k) (suc n) before next less = absurd (omega arith)
three-ones zero (suc j) (suc k) (suc n) before next less =
    let rest : weight (xors (xors (zeros n) (single j n)) (single k n)) ≡ 2 =
    ap (λ (x : List ℕ). weight (xors x (single k n))) (none-added j n) ∙ two-ones j k n (omega arith) (omega arith) in omega arith
three-ones (suc i) (suc j) (suc k) (suc n) before next less = let rest = three-ones i j k n (omega arith) (omega arith) (omega arith) in omega arith

-- ---- inverted bits in a code block
length-single : (i j : ℕ) → length (single i 63) ≡ length (single j 63)
length-single i j = single-length i 63 ∙ sym (single-length j 63)

added : (information es : List ℕ) → IsInformation information → length es ≡ 63 → AreBits es
    → differences (xors (word (code_block information)) es) (word (code_block information)) ≡ weight es
added information es is l bits =
    let w = word-bits (code_block information) (code-length information is) in
    differences-sum (word (code_block information)) es (w.0 ∙ sym l) w.1 bits

pub one-error : (information : List ℕ) (i : ℕ) → IsInformation information → i < 63 → errors (flipped (code_block information) i) information ≡ 1
one-error information i is less =
    let w = word (code_block information) in
    ap (λ (x : List ℕ). differences x w) (word-turned (code_block information) i (code-length information is) less)
    ∙ added information (single i 63) is (single-length i 63) (single-bits i 63) ∙ single-weight i 63 less

word-twice : (block : List ℕ) (i j : ℕ) → length block ≡ 8 → i < 63 → j < 63 → word (flipped (flipped block i) j) ≡ xors (word block) (xors (single i 63) (single j 63))
word-twice block i j l i_less j_less =
    word-turned (flipped block i) j (turned-length block i ∙ l) j_less
    ∙ ap (λ (x : List ℕ). xors x (single j 63)) (word-turned block i l i_less)
    ∙ xors-assoc (word block) (single i 63) (single j 63)

pub two-errors : (information : List ℕ) (i j : ℕ) → IsInformation information → i < j → j < 63 → errors (flipped (flipped (code_block information) i) j) information ≡ 2
two-errors information i j is before less =
    let w = word (code_block information) in let es = xors (single i 63) (single j 63) in
    ap (λ (x : List ℕ). differences x w) (word-twice (code_block information) i j (code-length information is) (omega arith) less)
    ∙ added information es is (xors-length (single i 63) (single j 63) (length-single i j) ∙ single-length i 63)
    (xors-bits (single i 63) (single j 63) (single-bits i 63) (single-bits j 63))
    ∙ two-ones i j 63 before less

pub three-errors : (information : List ℕ) (i j k : ℕ) → IsInformation information → i < j → j < k → k < 63
    → errors (flipped (flipped (flipped (code_block information) i) j) k) information ≡ 3
three-errors information i j k is before next less =
    let block = code_block information in let l = code-length information is in
    let two = xors (single i 63) (single j 63) in let es = xors two (single k 63) in
    let two_long : length two ≡ 63 = xors-length (single i 63) (single j 63) (length-single i j) ∙ single-length i 63 in
    let two_bits = xors-bits (single i 63) (single j 63) (single-bits i 63) (single-bits j 63) in
    let whole : word (flipped (flipped (flipped block i) j) k) ≡ xors (word block) es =
    word-turned (flipped (flipped block i) j) k (turned-length (flipped block i) j ∙ turned-length block i ∙ l) less
    ∙ ap (λ (x : List ℕ). xors x (single k 63)) (word-twice block i j l (omega arith) (omega arith))
    ∙ xors-assoc (word block) two (single k 63) in
    ap (λ (x : List ℕ). differences x (word block)) whole
    ∙ added information es is (xors-length two (single k 63) (two_long ∙ sym (single-length k 63)) ∙ two_long)
    (xors-bits two (single k 63) two_bits (single-bits k 63))
    ∙ three-ones i j k 63 before next less
