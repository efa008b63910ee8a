-- The register after eight more bits, computed in one step by a table or by shifts.
use Rattle.std.proofs.Common.{◌≡◌, ℕ, ◌+◌, ◌*◌, ◌/◌, ◌%◌, ◌^◌, ◌<◌, ◌≤◌, List, [], ◌∷◌, length, get_or, drop, take, bit_xor, refl, ap, sym, ◌∙◌, arith}
use Rattle.std.proofs.lemmas.List.{at_drop_more}
use Rattle.tc_edges.proofs.FecfLemmas.Names.{xor_zero_l, bits_of, octet_bits, remainder, times_x, xor_assoc, xor_comm, xor_lt, xor_shifted}
use Rattle.tc_edges.proofs.FecfLemmas.Below.{same_below}
use Rattle.tc_edges.proofs.FecfLemmas.Linear.{parts, shifted, shifted-linear, from_register, onward}
use Rattle.tc_edges.proofs.FecfLemmas.Polynomials.{scaled}
use Rattle.tc_edges.specs.declared.fecf.table.TheConstants.{SUMS, SUMS_ON, SUMS_TWO_ON, SUMS_THREE_ON}

-- ---- the register's high octet
abbrev eight : List ℕ
eight = 0 ∷ 0 ∷ 0 ∷ 0 ∷ 0 ∷ 0 ∷ 0 ∷ 0 ∷ []

unfoldable pub table : ℕ → ℕ
table x = shifted eight (x * 256)

abbrev pub folded : ℕ → ℕ
folded x = bit_xor x (x / 2 ^ 4)

unfoldable pub formula : ℕ → ℕ
formula x = bit_xor (bit_xor (folded x * 2 ^ 12 % 2 ^ 16) (folded x * 2 ^ 5 % 2 ^ 16)) (folded x)

formulas : (x : ℕ) → x < 256 → table x ≡ formula x
unfolding table formula shifted times_x
formulas = same_below table formula 256 refl

lows : (x : ℕ) → x < 256 → shifted eight x ≡ x * 256
unfolding shifted times_x
lows = same_below (shifted eight) (λ x. x * 256) 256 refl

octets : (x : ℕ) → x < 256 → remainder 0 (octet_bits x) ≡ table x
unfolding table shifted times_x octet_bits
octets = same_below (λ x. remainder 0 (octet_bits x)) table 256 refl

table-linear : (a b : ℕ) → table (bit_xor a b) ≡ bit_xor (table a) (table b)
unfolding table
table-linear a b = ap (shifted eight) (scaled 8 a b) ∙ shifted-linear eight (a * 256) (b * 256)

by_octet : (r : ℕ) → r < 2 ^ 16 → shifted eight r ≡ bit_xor (table (r / 256)) (r % 256 * 256)
unfolding table
by_octet r fits =
    let split : r ≡ bit_xor (r / 256 * 256) (r % 256) = sym (xor_shifted (r / 256) 8 (r % 256) (omega arith) ∙ omega arith) in
    ap (shifted eight) split
    ∙ shifted-linear eight (r / 256 * 256) (r % 256)
    ∙ ap (bit_xor (shifted eight (r / 256 * 256))) (lows (r % 256) (omega arith))

same_shift : (r o : ℕ) → shifted (octet_bits o) r ≡ shifted eight r
unfolding shifted octet_bits
same_shift r o = refl

-- eight bits take one look-up in the table
pub octet_more : (r o : ℕ) → r < 2 ^ 16 → o < 256 → remainder r (octet_bits o) ≡ bit_xor (r % 256 * 256) (table (bit_xor (r / 256) o))
octet_more r o r_fits o_fits =
    from_register (octet_bits o) r
    ∙ ap (λ (x : ℕ). bit_xor x (remainder 0 (octet_bits o))) (same_shift r o ∙ by_octet r r_fits ∙ xor_comm (table (r / 256)) (r % 256 * 256))
    ∙ ap (bit_xor (bit_xor (r % 256 * 256) (table (r / 256)))) (octets o o_fits)
    ∙ xor_assoc (r % 256 * 256) (table (r / 256)) (table o)
    ∙ ap (bit_xor (r % 256 * 256)) (sym (table-linear (r / 256) o))

-- eight bits take a few shifts instead of a look-up
pub by_shifts : (r o : ℕ) → r < 2 ^ 16 → o < 256
    → remainder r (octet_bits o) ≡ bit_xor (bit_xor (bit_xor (r * 2 ^ 8 % 2 ^ 16) (folded (bit_xor (r / 2 ^ 8) o) * 2 ^ 12 % 2 ^ 16)) (folded (bit_xor (r / 2 ^ 8) o) * 2 ^ 5 % 2 ^ 16)) (folded (bit_xor (r / 2 ^ 8) o))
unfolding formula
by_shifts r o r_fits o_fits =
    let x = bit_xor (r / 256) o in
    let x_fits : x < 256 = xor_lt 8 (r / 256) o (omega arith) o_fits in
    let low : r % 256 * 256 ≡ r * 2 ^ 8 % 2 ^ 16 = omega arith in
    let a = r * 2 ^ 8 % 2 ^ 16 in let b = folded x * 2 ^ 12 % 2 ^ 16 in let c = folded x * 2 ^ 5 % 2 ^ 16 in
    octet_more r o r_fits o_fits
    ∙ ap (bit_xor (r % 256 * 256)) (formulas x x_fits)
    ∙ ap (λ (y : ℕ). bit_xor y (formula x)) low
    ∙ sym (xor_assoc a (bit_xor b c) (folded x))
    ∙ ap (λ (y : ℕ). bit_xor y (folded x)) (sym (xor_assoc a b c))

-- ---- the stored tables
rows : (x : ℕ) → x < 256 → get_or SUMS x 0 ≡ table x
unfolding table shifted times_x
rows = same_below (λ x. get_or SUMS x 0) table 256 refl

rows-on : (x : ℕ) → x < 256 → get_or SUMS_ON x 0 ≡ shifted eight (table x)
unfolding table shifted times_x
rows-on = same_below (λ x. get_or SUMS_ON x 0) (λ x. shifted eight (table x)) 256 refl

rows-two-on : (x : ℕ) → x < 256 → get_or SUMS_TWO_ON x 0 ≡ shifted eight (shifted eight (table x))
unfolding table shifted times_x
rows-two-on = same_below (λ x. get_or SUMS_TWO_ON x 0) (λ x. shifted eight (shifted eight (table x))) 256 refl

rows-three-on : (x : ℕ) → x < 256 → get_or SUMS_THREE_ON x 0 ≡ shifted eight (shifted eight (shifted eight (table x)))
unfolding table shifted times_x
rows-three-on = same_below (λ x. get_or SUMS_THREE_ON x 0) (λ x. shifted eight (shifted eight (shifted eight (table x)))) 256 refl

-- ---- four octets at once
-- a register with the high octet `l` and the low octet 0 takes an octet by one look-up
low-octet : (l b : ℕ) → l < 256 → b < 256 → remainder (l * 256) (octet_bits b) ≡ table (bit_xor l b)
low-octet l b l_fits b_fits =
    let none : l * 256 % 256 * 256 ≡ 0 = omega arith in
    let half : l * 256 / 256 ≡ l = omega arith in
    octet_more (l * 256) b (omega arith) b_fits
    ∙ ap (λ (y : ℕ). bit_xor y (table (bit_xor (l * 256 / 256) b))) none
    ∙ xor_zero_l (table (bit_xor (l * 256 / 256) b))
    ∙ ap (λ (y : ℕ). table (bit_xor y b)) half

two : (r a b : ℕ) → r < 2 ^ 16 → a < 256 → b < 256
    → remainder (remainder r (octet_bits a)) (octet_bits b) ≡ bit_xor (shifted eight (table (bit_xor (r / 256) a))) (table (bit_xor (r % 256) b))
two r a b r_fits a_fits b_fits =
    let x = bit_xor (r / 256) a in
    ap (λ (s : ℕ). remainder s (octet_bits b)) (octet_more r a r_fits a_fits ∙ xor_comm (r % 256 * 256) (table x))
    ∙ parts (octet_bits b) (table x) (r % 256 * 256)
    ∙ ap (λ (y : ℕ). bit_xor y (remainder (r % 256 * 256) (octet_bits b))) (same_shift (table x) b)
    ∙ ap (bit_xor (shifted eight (table x))) (low-octet (r % 256) b (omega arith) b_fits)

two-on : (r c d : ℕ) → c < 256 → d < 256
    → remainder (remainder r (octet_bits c)) (octet_bits d) ≡ bit_xor (shifted eight (shifted eight r)) (bit_xor (shifted eight (table c)) (table d))
two-on r c d c_fits d_fits =
    ap (λ (s : ℕ). remainder s (octet_bits d)) (from_register (octet_bits c) r ∙ ap (λ (y : ℕ). bit_xor y (remainder 0 (octet_bits c))) (same_shift r c))
    ∙ parts (octet_bits d) (shifted eight r) (remainder 0 (octet_bits c))
    ∙ ap (λ (y : ℕ). bit_xor y (remainder (remainder 0 (octet_bits c)) (octet_bits d))) (same_shift (shifted eight r) d)
    ∙ ap (bit_xor (shifted eight (shifted eight r)))
    (two 0 c d (omega arith) c_fits d_fits ∙ ap (λ (y : ℕ). bit_xor (shifted eight (table y)) (table (bit_xor 0 d))) (xor_zero_l c)
    ∙ ap (λ (y : ℕ). bit_xor (shifted eight (table c)) (table y)) (xor_zero_l d))

pub four-tables : (r a b c d : ℕ) → r < 2 ^ 16 → a < 256 → b < 256 → c < 256 → d < 256
    → remainder r (bits_of (a ∷ b ∷ c ∷ d ∷ []))
    ≡ bit_xor (bit_xor (get_or SUMS_THREE_ON (bit_xor (r / 256) a) 0) (get_or SUMS_TWO_ON (bit_xor (r % 256) b) 0)) (bit_xor (get_or SUMS_ON c 0) (get_or SUMS d 0))
four-tables r a b c d r_fits a_fits b_fits c_fits d_fits =
    let x = bit_xor (r / 256) a in let y = bit_xor (r % 256) b in
    let x_fits : x < 256 = xor_lt 8 (r / 256) a (omega arith) a_fits in
    let y_fits : y < 256 = xor_lt 8 (r % 256) b (omega arith) b_fits in
    let after = remainder (remainder r (octet_bits a)) (octet_bits b) in
    let s1 = shifted eight (table x) in let s2 = table y in
    onward (octet_bits a) (bits_of (b ∷ c ∷ d ∷ [])) r
    ∙ onward (octet_bits b) (bits_of (c ∷ d ∷ [])) (remainder r (octet_bits a))
    ∙ onward (octet_bits c) (bits_of (d ∷ [])) after
    ∙ onward (octet_bits d) [] (remainder after (octet_bits c))
    ∙ two-on after c d c_fits d_fits
    ∙ ap (λ (z : ℕ). bit_xor (shifted eight (shifted eight z)) (bit_xor (shifted eight (table c)) (table d))) (two r a b r_fits a_fits b_fits)
    ∙ ap (λ (z : ℕ). bit_xor (shifted eight z) (bit_xor (shifted eight (table c)) (table d))) (shifted-linear eight s1 s2)
    ∙ ap (λ (z : ℕ). bit_xor z (bit_xor (shifted eight (table c)) (table d))) (shifted-linear eight (shifted eight s1) (shifted eight s2))
    ∙ ap (λ (z : ℕ). bit_xor (bit_xor z (shifted eight (shifted eight s2))) (bit_xor (shifted eight (table c)) (table d))) (sym (rows-three-on x x_fits))
    ∙ ap (λ (z : ℕ). bit_xor (bit_xor (get_or SUMS_THREE_ON x 0) z) (bit_xor (shifted eight (table c)) (table d))) (sym (rows-two-on y y_fits))
    ∙ ap (λ (z : ℕ). bit_xor (bit_xor (get_or SUMS_THREE_ON x 0) (get_or SUMS_TWO_ON y 0)) (bit_xor z (table d))) (sym (rows-on c c_fits))
    ∙ ap (λ (z : ℕ). bit_xor (bit_xor (get_or SUMS_THREE_ON x 0) (get_or SUMS_TWO_ON y 0)) (bit_xor (get_or SUMS_ON c 0) z)) (sym (rows d d_fits))

-- the first four octets, which the loop over four octets at a time takes
abbrev first_four : List ℕ → List ℕ
first_four os = get_or os 0 0 ∷ get_or os 1 0 ∷ get_or os 2 0 ∷ get_or os 3 0 ∷ []

four-off : (r : ℕ) (os : List ℕ) → 4 ≤ length os
    → remainder (remainder r (bits_of (first_four (take 4 os)))) (bits_of (drop 4 os)) ≡ remainder r (bits_of os)
unfolding octet_bits
four-off r (a ∷ b ∷ c ∷ d ∷ os) less = sym (onward (bits_of (a ∷ b ∷ c ∷ d ∷ [])) (bits_of os) r)
four-off r _ less = absurd (omega arith)

pub four-taken : (r sum : ℕ) (os front back : List ℕ) → 4 ≤ length os → front ≡ take 4 os → back ≡ drop 4 os
    → sum ≡ remainder r (bits_of (first_four front))
    → remainder sum (bits_of back) ≡ remainder r (bits_of os)
four-taken r sum os front back less is_front is_back is =
    ap (λ (s : ℕ). remainder s (bits_of back)) (is ∙ ap (λ (f : List ℕ). remainder r (bits_of (first_four f))) is_front)
    ∙ ap (λ (b : List ℕ). remainder (remainder r (bits_of (first_four (take 4 os)))) (bits_of b)) is_back
    ∙ four-off r os less

-- if the loop over single octets takes one more octet, the remainder of all octets stays the same
pub taken : (r i : ℕ) (os : List ℕ) → i < length os → remainder (remainder r (octet_bits (get_or os i 0))) (bits_of (drop (i + 1) os)) ≡ remainder r (bits_of (drop i os))
taken r i os less =
    sym (onward (octet_bits (get_or os i 0)) (bits_of (drop (i + 1) os)) r)
    ∙ sym (at_drop_more (λ (x : List ℕ). remainder r (bits_of x)) os i 0 less)
