-- The octets that count as the start sequence.
use Rattle.std.proofs.Common.{◌≡◌, ℕ, zero, suc, ◌+◌, ◌<◌, ◌≤◌, Bool, true, false, List, ◌∷◌, ◌++◌, bit_xor, nat_eq, nat_lt, nat_le, if◌then◌else◌, refl, ap, sym, ◌∙◌, arith}
use Rattle.tc_edges.proofs.CltuLemmas.Names.{Correct, Detect, Mode, differences, flipped, lt-ltb, most_errors, nat_tests, octet_bits, same_below, start_sequence}
use lib.Count.{ones, ones_in}
use Rattle.tc_edges.specs.Cltu.Reception.{start_errors, is_start}

-- the sum of an octet and an octet of the start sequence has as many ones as there are bits in which these two differ
firsts : (o : ℕ) → o < 256 → ones (bit_xor o 0xEB) ≡ differences (octet_bits o) (octet_bits 0xEB)
unfolding octet_bits ones ones_in
firsts = same_below (λ o. ones (bit_xor o 0xEB)) (λ o. differences (octet_bits o) (octet_bits 0xEB)) 256 refl

seconds : (o : ℕ) → o < 256 → ones (bit_xor o 0x90) ≡ differences (octet_bits o) (octet_bits 0x90)
unfolding octet_bits ones ones_in
seconds = same_below (λ o. ones (bit_xor o 0x90)) (λ o. differences (octet_bits o) (octet_bits 0x90)) 256 refl

split : (last octet : ℕ) → start_errors last octet ≡ differences (octet_bits last) (octet_bits 0xEB) + differences (octet_bits octet) (octet_bits 0x90)
unfolding start_errors octet_bits
split last octet = omega arith

pub counted : (last octet : ℕ) → last < 256 → octet < 256 → ones (bit_xor last 0xEB) + ones (bit_xor octet 0x90) ≡ start_errors last octet
counted last octet p q = let a = firsts last p in let b = seconds octet q in let s = split last octet in omega arith

-- the code's test of the number of wrong bits agrees with the mode's limit
none-wrong : (n : ℕ) → nat_eq n 0 ≡ (if nat_lt 0 n then false else true)
none-wrong zero = refl
none-wrong (suc n) = grind (arith, nat_tests)

one-at-most : (n : ℕ) → nat_le n 1 ≡ (if nat_lt 1 n then false else true)
one-at-most n = grind (arith, nat_tests)

pub detects : (mode : Mode) (n last octet : ℕ) → mode ≡ Detect → n ≡ start_errors last octet → nat_eq n 0 ≡ is_start mode last octet
unfolding is_start
detects mode n last octet m e = none-wrong n ∙ ap (λ (x : ℕ). if nat_lt 0 x then false else true) e ∙ sym (ap (λ (d : Mode). is_start d last octet) m)

pub corrects : (mode : Mode) (n last octet : ℕ) → mode ≡ Correct → n ≡ start_errors last octet → nat_le n 1 ≡ is_start mode last octet
unfolding is_start
corrects mode n last octet m e = one-at-most n ∙ ap (λ (x : ℕ). if nat_lt 1 x then false else true) e ∙ sym (ap (λ (d : Mode). is_start d last octet) m)

pub few : (mode : Mode) → most_errors mode ≤ 1
few Detect = omega arith
few Correct = omega arith

-- an octet that differs in more than one bit from the second octet of the start sequence doesn't end a start sequence
pub start-far : (mode : Mode) (last octet : ℕ) → 1 < differences (octet_bits octet) (octet_bits 0x90) → is_start mode last octet ≡ false
unfolding is_start
start-far mode last octet far =
    let s = split last octet in let f = few mode in
    ap (λ (t : Bool). if t then false else true) (lt-ltb (most_errors mode) (start_errors last octet) (omega arith))

pub start-same : (mode : Mode) → is_start mode 0xEB 0x90 ≡ true
unfolding is_start start_errors octet_bits
start-same Detect = refl
start-same Correct = refl

far-by : (octet n : ℕ) → differences (octet_bits octet) (octet_bits 0x90) ≡ suc (suc n) → 1 < differences (octet_bits octet) (octet_bits 0x90)
far-by octet n e = omega arith

pub first-far : 1 < differences (octet_bits 0xEB) (octet_bits 0x90)
unfolding octet_bits
first-far = far-by 0xEB 4 refl

pub idle-far : 1 < differences (octet_bits 0x55) (octet_bits 0x90)
unfolding octet_bits
idle-far = far-by 0x55 2 refl

-- With correction, the start sequence with bit `k` inverted counts as a start sequence. Its first octet doesn't end
-- one.
abbrev pub IsOneOff : ℕ → List ℕ → Type 0
IsOneOff k body = (a b : ℕ) × (flipped (start_sequence ++ body) k ≡ a ∷ b ∷ body) × (1 < differences (octet_bits a) (octet_bits 0x90)) × (is_start Correct a b ≡ true)

pub one-off : (k : ℕ) (body : List ℕ) → k < 16 → IsOneOff k body
unfolding is_start start_errors octet_bits
one-off zero body less = (0x6B, 0x90, refl, far-by 0x6B 5 refl, refl)
one-off (suc zero) body less = (0xAB, 0x90, refl, far-by 0xAB 3 refl, refl)
one-off (suc (suc zero)) body less = (0xCB, 0x90, refl, far-by 0xCB 3 refl, refl)
one-off (suc (suc (suc zero))) body less = (0xFB, 0x90, refl, far-by 0xFB 3 refl, refl)
one-off (suc (suc (suc (suc zero)))) body less = (0xE3, 0x90, refl, far-by 0xE3 3 refl, refl)
one-off (suc (suc (suc (suc (suc zero))))) body less = (0xEF, 0x90, refl, far-by 0xEF 5 refl, refl)
one-off (suc (suc (suc (suc (suc (suc zero)))))) body less = (0xE9, 0x90, refl, far-by 0xE9 3 refl, refl)
one-off (suc (suc (suc (suc (suc (suc (suc zero))))))) body less = (0xEA, 0x90, refl, far-by 0xEA 3 refl, refl)
one-off (suc (suc (suc (suc (suc (suc (suc (suc zero)))))))) body less = (0xEB, 0x10, refl, far-by 0xEB 4 refl, refl)
one-off (suc (suc (suc (suc (suc (suc (suc (suc (suc zero))))))))) body less = (0xEB, 0xD0, refl, far-by 0xEB 4 refl, refl)
one-off (suc (suc (suc (suc (suc (suc (suc (suc (suc (suc zero)))))))))) body less = (0xEB, 0xB0, refl, far-by 0xEB 4 refl, refl)
one-off (suc (suc (suc (suc (suc (suc (suc (suc (suc (suc (suc zero))))))))))) body less = (0xEB, 0x80, refl, far-by 0xEB 4 refl, refl)
one-off (suc (suc (suc (suc (suc (suc (suc (suc (suc (suc (suc (suc zero)))))))))))) body less = (0xEB, 0x98, refl, far-by 0xEB 4 refl, refl)
one-off (suc (suc (suc (suc (suc (suc (suc (suc (suc (suc (suc (suc (suc zero))))))))))))) body less = (0xEB, 0x94, refl, far-by 0xEB 4 refl, refl)
one-off (suc (suc (suc (suc (suc (suc (suc (suc (suc (suc (suc (suc (suc (suc zero)))))))))))))) body less = (0xEB, 0x92, refl, far-by 0xEB 4 refl, refl)
one-off (suc (suc (suc (suc (suc (suc (suc (suc (suc (suc (suc (suc (suc (suc (suc zero))))))))))))))) body less = (0xEB, 0x91, refl, far-by 0xEB 4 refl, refl)
one-off (suc (suc (suc (suc (suc (suc (suc (suc (suc (suc (suc (suc (suc (suc (suc (suc k)))))))))))))))) body less = absurd (omega arith)
