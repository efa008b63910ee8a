-- Frames with and without their field.
use Rattle.std.proofs.Common.{◌≡◌, ℕ, ◌+◌, ◌*◌, ◌/◌, ◌%◌, ◌^◌, ◌<◌, List, [], ◌∷◌, ◌++◌, bit_xor, refl, ap, sym, ◌∙◌, append_assoc, arith}
use Rattle.tc_edges.proofs.FecfLemmas.Names.{bits_of, checksum_of, octet_bits, remainder, times_x, xor_self, xor_zero_r}
use Rattle.tc_edges.specs.Fecf.FrameWithField.{spelled}
use Rattle.tc_edges.proofs.FecfLemmas.Linear.{onward, times_x-fits, shifted}
use Rattle.tc_edges.proofs.FecfLemmas.Octets.{octet_more, table}
use Rattle.tc_edges.proofs.FecfLemmas.Changes.{Alike, back, bits-bits}
use Rattle.tc_edges.proofs.FecfLemmas.Polynomials.{AreBits}

bits-append : (xs ys : List ℕ) → bits_of (xs ++ ys) ≡ bits_of xs ++ bits_of ys
bits-append [] ys = refl
bits-append (x ∷ xs) ys = ap (λ (b : List ℕ). octet_bits x ++ b) (bits-append xs ys) ∙ sym (append_assoc (octet_bits x) (bits_of xs) (bits_of ys))

fits : (bs : List ℕ) (r : ℕ) → r < 2 ^ 16 → remainder r bs < 2 ^ 16
fits [] r less = less
fits (b ∷ bs) r less = fits bs _ (times_x-fits _)

pub sum-fits : (octets : List ℕ) → checksum_of octets < 2 ^ 16
sum-fits octets = fits (bits_of octets) 65535 (omega arith)

sum-append : (xs ys : List ℕ) → checksum_of (xs ++ ys) ≡ remainder (checksum_of xs) (bits_of ys)
sum-append xs ys = ap (remainder 65535) (bits-append xs ys) ∙ onward (bits_of xs) (bits_of ys) 65535

table-none : table 0 ≡ 0
unfolding table shifted times_x
table-none = refl

first-own : (h l : ℕ) → h < 256 → l < 256 → remainder (256 * h + l) (octet_bits h) ≡ l * 256
first-own h l h_fits l_fits =
    let high : (256 * h + l) / 256 ≡ h = omega arith in
    let low : (256 * h + l) % 256 ≡ l = omega arith in
    octet_more (256 * h + l) h (omega arith) h_fits
    ∙ ap (λ (x : ℕ). bit_xor ((256 * h + l) % 256 * 256) (table x)) (ap (λ (x : ℕ). bit_xor x h) high ∙ xor_self h)
    ∙ ap (bit_xor ((256 * h + l) % 256 * 256)) table-none
    ∙ xor_zero_r _
    ∙ ap (λ (x : ℕ). x * 256) low

second-own : (l : ℕ) → l < 256 → remainder (l * 256) (octet_bits l) ≡ 0
second-own l l_fits =
    let high : l * 256 / 256 ≡ l = omega arith in
    let low : l * 256 % 256 * 256 ≡ 0 = omega arith in
    octet_more (l * 256) l (omega arith) l_fits
    ∙ ap (λ (x : ℕ). bit_xor (l * 256 % 256 * 256) (table x)) (ap (λ (x : ℕ). bit_xor x l) high ∙ xor_self l)
    ∙ ap (bit_xor (l * 256 % 256 * 256)) table-none
    ∙ xor_zero_r _
    ∙ low

own : (h l : ℕ) → h < 256 → l < 256 → remainder (256 * h + l) (bits_of (h ∷ l ∷ [])) ≡ 0
own h l h_fits l_fits =
    onward (octet_bits h) (bits_of (l ∷ [])) (256 * h + l)
    ∙ ap (λ (x : ℕ). remainder x (bits_of (l ∷ []))) (first-own h l h_fits l_fits)
    ∙ onward (octet_bits l) [] (l * 256)
    ∙ second-own l l_fits

-- octets followed by their sum leave no remainder
pub closed : (octets : List ℕ) → checksum_of (octets ++ spelled (checksum_of octets)) ≡ 0
closed octets =
    let n = checksum_of octets in
    let less : n < 2 ^ 16 = sum-fits octets in
    let whole : n ≡ 256 * (n / 256) + n % 256 = omega arith in
    sum-append octets (spelled n) ∙ ap (λ (x : ℕ). remainder x (bits_of (spelled n))) whole ∙ own (n / 256) (n % 256) (omega arith) (omega arith)

-- if octets followed by two octets leave no remainder, these two octets spell the sum
pub closing : (octets : List ℕ) (h l : ℕ) → h < 256 → l < 256 → checksum_of (octets ++ (h ∷ l ∷ [])) ≡ 0 → h ∷ l ∷ [] ≡ spelled (checksum_of octets)
unfolding AreBits Alike
closing octets h l h_fits l_fits none =
    let bs = bits_of (h ∷ l ∷ []) in
    let b = back bs bs refl (bits-bits (h ∷ l ∷ [])) (bits-bits (h ∷ l ∷ [])) (checksum_of octets) (256 * h + l) (sum-fits octets) (omega arith) (λ k. refl)
    (sym (sum-append octets (h ∷ l ∷ [])) ∙ none ∙ sym (own h l h_fits l_fits)) in
    let at : checksum_of octets ≡ 256 * h + l = b.0 in
    let high : h ≡ checksum_of octets / 256 = omega arith in
    let low : l ≡ checksum_of octets % 256 = omega arith in
    cc
