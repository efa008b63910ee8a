-- A change of three bits.
use Rattle.std.proofs.Common.{◌≡◌, ◌≢◌, ℕ, zero, suc, ◌+◌, ◌-◌, ◌*◌, ◌%◌, ◌^◌, ◌<◌, List, [], ◌∷◌, bit_xor, length, get_or, sum, refl, ap, sym, ◌∙◌, arith, inl, inr}
use Rattle.std.proofs.lemmas.Bool.{cases_eq}
use Rattle.tc_edges.proofs.FecfLemmas.Names.{Passes, SameBits, SameOctets, bits_of, remainder, times_x, with_bit, xor_self}
use Rattle.tc_edges.proofs.FecfLemmas.Linear.{times_x-fits}
use Rattle.tc_edges.proofs.FecfLemmas.Polynomials.{AreBits}
use Rattle.tc_edges.proofs.FecfLemmas.Changes.{Alike, apart, different, later-near, two, bits-bits, bits-length, bits-same}
use Rattle.tc_edges.proofs.FecfLemmas.Ones.{total, parity, half, parity-linear, parity-fits, counted, added}

sums-alike : (bs cs : List ℕ) → length bs ≡ length cs → ((k : ℕ) → Alike bs cs k) → sum bs ≡ sum cs
unfolding Alike
sums-alike [] [] lengths alike = refl
sums-alike (b ∷ bs) (c ∷ cs) lengths alike =
    let rest = sums-alike bs cs (omega arith) (λ k. alike (suc k)) in
    let head : b ≡ c = alike 0 in
    let x = total b bs in let y = total c cs in omega arith
sums-alike _ _ lengths alike = absurd (omega arith)

sums-one : (n : ℕ) (bs cs : List ℕ) → length bs ≡ length cs → AreBits bs → AreBits cs → ((k : ℕ) → k ≢ n → Alike bs cs k) → get_or bs n 0 ≢ get_or cs n 0 → (sum bs + sum cs) % 2 ≡ 1
unfolding AreBits Alike
sums-one zero (b ∷ bs) (c ∷ cs) lengths bits_b bits_c alike ne =
    let rest = sums-alike bs cs (omega arith) (λ k. alike (suc k) (λ z. omega arith)) in
    let apart_here : b ≢ c = ne in
    let b_fits : b < 2 = bits_b 0 in let c_fits : c < 2 = bits_c 0 in
    let x = total b bs in let y = total c cs in omega arith
sums-one (suc n) (b ∷ bs) (c ∷ cs) lengths bits_b bits_c alike ne =
    let rest = sums-one n bs cs (omega arith) (λ k. bits_b (suc k)) (λ k. bits_c (suc k)) (λ k other. alike (suc k) (λ z. other (omega arith))) ne in
    let head : b ≡ c = alike 0 (λ z. omega arith) in
    let x = total b bs in let y = total c cs in omega arith
sums-one n [] [] lengths bits_b bits_c alike ne = absurd (ne refl)
sums-one n _ _ lengths bits_b bits_c alike ne = absurd (omega arith)

sums-two : (m n : ℕ) (bs cs : List ℕ) → length bs ≡ length cs → AreBits bs → AreBits cs → ((k : ℕ) → k ≢ m → k ≢ m + suc n → Alike bs cs k)
    → get_or bs m 0 ≢ get_or cs m 0 → get_or bs (m + suc n) 0 ≢ get_or cs (m + suc n) 0 → (sum bs + sum cs) % 2 ≡ 0
unfolding AreBits Alike
sums-two zero n (b ∷ bs) (c ∷ cs) lengths bits_b bits_c alike ne ne_too =
    let place : 0 + suc n ≡ suc n = omega arith in
    let rest = sums-one n bs cs (omega arith) (λ k. bits_b (suc k)) (λ k. bits_c (suc k)) (λ k other. alike (suc k) (λ z. omega arith) (λ z. other (omega arith)))
    (λ e. ne_too (ap (λ (x : ℕ). get_or (b ∷ bs) x 0) place ∙ e ∙ sym (ap (λ (x : ℕ). get_or (c ∷ cs) x 0) place))) in
    let apart_here : b ≢ c = ne in
    let b_fits : b < 2 = bits_b 0 in let c_fits : c < 2 = bits_c 0 in
    let x = total b bs in let y = total c cs in omega arith
sums-two (suc m) n (b ∷ bs) (c ∷ cs) lengths bits_b bits_c alike ne ne_too =
    let place : suc m + suc n ≡ suc (m + suc n) = omega arith in
    let rest = sums-two m n bs cs (omega arith) (λ k. bits_b (suc k)) (λ k. bits_c (suc k))
    (λ k first second. alike (suc k) (λ z. first (omega arith)) (λ z. second (omega arith))) ne
    (λ e. ne_too (ap (λ (x : ℕ). get_or (b ∷ bs) x 0) place ∙ e ∙ sym (ap (λ (x : ℕ). get_or (c ∷ cs) x 0) place))) in
    let head : b ≡ c = alike 0 (λ z. omega arith) (λ z. omega arith) in
    let x = total b bs in let y = total c cs in omega arith
sums-two m n [] [] lengths bits_b bits_c alike ne ne_too = absurd (ne refl)
sums-two m n _ _ lengths bits_b bits_c alike ne ne_too = absurd (omega arith)

odd-one : parity (times_x 32768) ≡ 1
unfolding parity half times_x
odd-one = refl

-- One differing bit has set two registers apart. If exactly two more bits differ, the registers can't become equal
-- again.
never-two : (m n : ℕ) (bs cs : List ℕ) → length bs ≡ length cs → AreBits bs → AreBits cs → (r s : ℕ) → r < 2 ^ 16 → s < 2 ^ 16
    → ((k : ℕ) → k ≢ m → k ≢ m + suc n → Alike bs cs k) → get_or bs m 0 ≢ get_or cs m 0 → get_or bs (m + suc n) 0 ≢ get_or cs (m + suc n) 0
    → bit_xor r s ≡ times_x 32768 → remainder r bs ≡ remainder s cs → ⊥
never-two m n bs cs lengths bits_b bits_c r s r_fits s_fits alike ne ne_too one e =
    let even = sums-two m n bs cs lengths bits_b bits_c alike ne ne_too in
    let p = counted bs r bits_b r_fits in let q = counted cs s bits_c s_fits in
    let ends : parity (remainder r bs) ≡ parity (remainder s cs) = ap parity e in
    let odd : (parity r + parity s) % 2 ≡ 1 = sym (added (parity r) (parity s) (parity-fits r) (parity-fits s)) ∙ sym (parity-linear r s) ∙ ap parity one ∙ odd-one in
    omega arith

three : (i m n : ℕ) → m + suc n < 32766 → (bs cs : List ℕ) → length bs ≡ length cs → AreBits bs → AreBits cs → (r : ℕ) → r < 2 ^ 16
    → ((k : ℕ) → k ≢ i → k ≢ i + suc m → k ≢ i + suc (m + suc n) → Alike bs cs k) → remainder r bs ≡ remainder r cs → bs ≡ cs
unfolding AreBits Alike
three i m n near [] [] lengths bits_b bits_c r r_fits alike e = refl
three zero m n near (b ∷ bs) (c ∷ cs) lengths bits_b bits_c r r_fits alike e =
    let rest : (k : ℕ) → k ≢ m → k ≢ m + suc n → get_or bs k 0 ≡ get_or cs k 0 =
    λ k first second. alike (suc k) (λ z. omega arith) (λ z. first (omega arith)) (λ z. second (omega arith)) in
    elim (cases_eq b c) [
      | inl heads ↦
          let tails : bs ≡ cs = two m n (omega arith) bs cs (omega arith) (λ k. bits_b (suc k)) (λ k. bits_c (suc k)) (with_bit r b) (times_x-fits _) rest
          (e ∙ ap (λ (x : ℕ). remainder (with_bit r x) cs) (sym heads)) in
          cc
      | inr ne ↦
          let one : bit_xor (with_bit r b) (with_bit r c) ≡ times_x 32768 =
          apart r r b c ∙ ap times_x (ap (λ (x : ℕ). bit_xor x (bit_xor b c * 2 ^ 15)) (xor_self r) ∙ ap (λ (x : ℕ). x * 2 ^ 15) (different b c (bits_b 0) (bits_c 0) ne)) in
          absurd (elim (cases_eq (get_or bs m 0) (get_or cs m 0)) [
            | inl first ↦ later-near (m + suc n) near bs cs (omega arith) (λ k. bits_b (suc k)) (λ k. bits_c (suc k)) (with_bit r b) (with_bit r c) (times_x-fits _) (times_x-fits _)
                (λ k other. elim (cases_eq k m) [ inl at ↦ ap (λ (x : ℕ). get_or bs x 0) at ∙ first ∙ sym (ap (λ (x : ℕ). get_or cs x 0) at) | inr off ↦ rest k off other ]) one e
            | inr first ↦ elim (cases_eq (get_or bs (m + suc n) 0) (get_or cs (m + suc n) 0)) [
              | inl second ↦ later-near m (omega arith) bs cs (omega arith) (λ k. bits_b (suc k)) (λ k. bits_c (suc k)) (with_bit r b) (with_bit r c) (times_x-fits _) (times_x-fits _)
                  (λ k other. elim (cases_eq k (m + suc n)) [ inl at ↦ ap (λ (x : ℕ). get_or bs x 0) at ∙ second ∙ sym (ap (λ (x : ℕ). get_or cs x 0) at) | inr off ↦ rest k other off ]) one e
              | inr second ↦ never-two m n bs cs (omega arith) (λ k. bits_b (suc k)) (λ k. bits_c (suc k)) (with_bit r b) (with_bit r c) (times_x-fits _) (times_x-fits _) rest first second one e
            ]
          ])
    ]
three (suc i) m n near (b ∷ bs) (c ∷ cs) lengths bits_b bits_c r r_fits alike e =
    let heads : b ≡ c = alike 0 (λ z. omega arith) (λ z. omega arith) (λ z. omega arith) in
    let tails : bs ≡ cs = three i m n near bs cs (omega arith) (λ k. bits_b (suc k)) (λ k. bits_c (suc k)) (with_bit r b) (times_x-fits _)
    (λ k first second third. alike (suc k) (λ z. first (omega arith)) (λ z. second (omega arith)) (λ z. third (omega arith))) (e ∙ ap (λ (x : ℕ). remainder (with_bit r x) cs) (sym heads)) in
    cc
three i m n near _ _ lengths bits_b bits_c r r_fits alike e = absurd (omega arith)

pub three-detected : (one other : List ℕ) (i j k : ℕ) → i < j → j < k → k < i + 32767 → SameOctets one other → SameBits one other (λ p. (p ≢ i) × (p ≢ j) × (p ≢ k))
    → Passes one → Passes other → one ≡ other
unfolding AreBits Alike
three-detected one other i j k first second near is alike passes_one passes_other =
    bits-same one other is.each_one is.each_other is.length
    (three i (j - i - 1) (k - j - 1) (omega arith) (bits_of one) (bits_of other) (bits-length one other is.length) (bits-bits one) (bits-bits other) 65535 (omega arith)
    (λ p a b c. alike p (a, (λ z. b (omega arith)), (λ z. c (omega arith)))) (passes_one ∙ sym passes_other))
