-- The result of decoding, and the errors that it detects or corrects.
use Rattle.std.proofs.Common.{◌≡◌, ◌≢◌, ◌⊎◌, ℕ, zero, suc, ◌+◌, ◌-◌, ◌*◌, ◌/◌, ◌%◌, ◌^◌, ◌<◌, ◌≤◌, Bool, List, [], ◌∷◌, ◌++◌, Option, Some, None, IfSome, bit_xor, length, length-append, get_or, set, if◌then◌else◌, subst, refl, ap, sym, ◌∙◌, arith, inl, inr}
use Rattle.tc_edges.proofs.CltuLemmas.Names.{Correct, Detect, IsOctets, Mode, again, bits-same, bits_of, cases_eq, cases_lt, differences, le-ltb, lt-ltb, twice, xor_assoc, xor_self}
use Rattle.std.proofs.lemmas.Nat.{shr_le, xor_lt, xor_comm}
use Rattle.std.proofs.lemmas.List.{get_or_append_left, get_or_at, length-set, set-append_left, set_at, set_past, take_at}
use Rattle.tc_edges.specs.Cltu.CodeBlock.{IsInformation, parity_of, block_remainder, code_block, word, errors, most_errors, flipped, near, first_within, decoded}
use Rattle.tc_edges.proofs.CltuLemmas.Patterns.{AreBits, xors, weight, single, xors-bits, xors-length, one-is, differences-weight, none-same, xors-back, single-weight, single-length}
use Rattle.tc_edges.proofs.CltuLemmas.Words.{are-bits, fifty-six, left, left-linear, block-left, left-block, word-left, word-parts, word-turned, bits-turned, seven}
use Rattle.tc_edges.proofs.CltuLemmas.Starting.{few}
use Rattle.tc_edges.proofs.CltuLemmas.Distance.{placed, place-of, placed-is, word-bits, code-length, between}

-- ---- octets with one bit inverted
power : (m : ℕ) → m < 8 → 2 ^ (7 - m) ≡ 128 / 2 ^ m
power (suc (suc (suc (suc (suc (suc (suc (suc m)))))))) less = absurd (omega arith)
power _ less = refl

-- inverting a bit changes the octet at one index
pub turned-set : (os : List ℕ) (k : ℕ) → flipped os k ≡ set os (k / 8) (bit_xor (get_or os (k / 8) 0) (128 / 2 ^ (k % 8)))
turned-set [] k = refl
turned-set (o ∷ os) k =
    elim (cases_lt k 8) [
      | inl low ↦
          let q : 0 ≡ k / 8 = omega arith in
          let m : k ≡ k % 8 = omega arith in
          ap (λ (t : Bool). if t then bit_xor o (2 ^ (7 - k)) ∷ os else o ∷ flipped os (k - 8)) (lt-ltb k 8 low)
          ∙ ap (λ (x : ℕ). bit_xor o x ∷ os) (power k low ∙ ap (λ (x : ℕ). 128 / 2 ^ x) m)
          ∙ ap (λ (x : ℕ). set (o ∷ os) x (bit_xor (get_or (o ∷ os) x 0) (128 / 2 ^ (k % 8)))) q
      | inr high ↦
          let q : suc ((k - 8) / 8) ≡ k / 8 = omega arith in
          let m : (k - 8) % 8 ≡ k % 8 = omega arith in
          ap (λ (t : Bool). if t then bit_xor o (2 ^ (7 - k)) ∷ os else o ∷ flipped os (k - 8)) (le-ltb k 8 high)
          ∙ ap (λ (x : List ℕ). o ∷ x) (turned-set os (k - 8))
          ∙ ap (λ (x : ℕ). o ∷ set os ((k - 8) / 8) (bit_xor (get_or os ((k - 8) / 8) 0) (128 / 2 ^ x))) m
          ∙ ap (λ (x : ℕ). set (o ∷ os) x (bit_xor (get_or (o ∷ os) x 0) (128 / 2 ^ (k % 8)))) q
    ]

pub turned-length : (os : List ℕ) (k : ℕ) → length (flipped os k) ≡ length os
turned-length os k = ap length (turned-set os k) ∙ length-set os (k / 8) _

set-octets : (os : List ℕ) (i v : ℕ) → IsOctets os → v < 256 → IsOctets (set os i v)
set-octets [] i v each fits j = each j
set-octets (o ∷ os) zero v each fits zero = fits
set-octets (o ∷ os) zero v each fits (suc j) = each (suc j)
set-octets (o ∷ os) (suc i) v each fits zero = each 0
set-octets (o ∷ os) (suc i) v each fits (suc j) = set-octets os i v (λ n. each (suc n)) fits j

turned-fits : (o m : ℕ) → o < 256 → bit_xor o (128 / 2 ^ m) < 256
turned-fits o m fits = let small = shr_le 128 m in xor_lt 8 o (128 / 2 ^ m) fits (omega arith)

pub turned-octets : (os : List ℕ) (k : ℕ) → IsOctets os → IsOctets (flipped os k)
turned-octets os k each = subst IsOctets (sym (turned-set os k)) (set-octets os (k / 8) _ each (turned-fits _ (k % 8) (each (k / 8))))

turned-good : (information : List ℕ) (k : ℕ) → IsInformation information → IsInformation (flipped information k)
turned-good information k is = record {
  each = turned-octets information k is.each;
  seven = turned-length information k ∙ is.seven;
}

turned-front : (os ps : List ℕ) (k : ℕ) → k / 8 < length os → flipped (os ++ ps) k ≡ flipped os k ++ ps
turned-front os ps k less =
    turned-set (os ++ ps) k ∙ ap (λ (x : ℕ). set (os ++ ps) (k / 8) (bit_xor x (128 / 2 ^ (k % 8)))) (get_or_append_left os ps 0 (k / 8) less)
    ∙ set-append_left os ps (k / 8) _ less ∙ sym (ap (λ (x : List ℕ). x ++ ps) (turned-set os k))

turned-last : (os : List ℕ) (last k : ℕ) → length os ≡ k / 8 → flipped (os ++ last ∷ []) k ≡ os ++ bit_xor last (128 / 2 ^ (k % 8)) ∷ []
turned-last os last k l =
    turned-set (os ++ last ∷ []) k ∙ ap (λ (x : ℕ). set (os ++ last ∷ []) (k / 8) (bit_xor x (128 / 2 ^ (k % 8)))) (get_or_at os last [] 0 (k / 8) l)
    ∙ set_at os last [] _ (k / 8) l

pub turned-past : (os : List ℕ) (k : ℕ) → 8 * length os ≤ k → flipped os k ≡ os
turned-past os k past = turned-set os k ∙ set_past os (k / 8) _ (omega arith)

-- ---- the first candidate within a limit
first-more : (limit : ℕ) (block x : List ℕ) (xs : List (List ℕ)) → limit < errors block x → first_within limit block (x ∷ xs) ≡ first_within limit block xs
first-more limit block x xs over = ap (λ (t : Bool). if t then first_within limit block xs else Some x) (lt-ltb limit (errors block x) over)

first-here : (limit : ℕ) (block x : List ℕ) (xs : List (List ℕ)) → errors block x ≤ limit → first_within limit block (x ∷ xs) ≡ Some x
first-here limit block x xs within = ap (λ (t : Bool). if t then first_within limit block xs else Some x) (le-ltb limit (errors block x) within)

-- a code block can carry `y`, and the given block differs from that code block in at most `limit` places
abbrev IsWithin : ℕ → List ℕ → List ℕ → Type 0
IsWithin limit block y = IsInformation y × (errors block y ≤ limit)

first-next : (limit : ℕ) (block x : List ℕ) (xs : List (List ℕ)) (y : List ℕ) → IsInformation x → (first_within limit block xs ≡ Some y → IsWithin limit block y)
    → first_within limit block (x ∷ xs) ≡ Some y → IsWithin limit block y
first-next limit block x xs y good later h =
    elim (cases_lt limit (errors block x)) [
      | inl over ↦ later (sym (first-more limit block x xs over) ∙ h)
      | inr within ↦
          let e : Some x ≡ Some y = sym (first-here limit block x xs within) ∙ h in
          let is : x ≡ y = cc in
          subst (IsWithin limit block) is (good, within)
    ]

first-good : (limit : ℕ) (block information : List ℕ) (n : ℕ) (y : List ℕ) → IsInformation information → first_within limit block (near information n) ≡ Some y → IsWithin limit block y
first-good limit block information zero y good h = first-next limit block information [] y good (λ none. absurd (cc)) h
first-good limit block information (suc n) y good h =
    first-next limit block (flipped information n) (near information n) y (turned-good information n good) (first-good limit block information n y good) h

-- `first_within` finds a candidate
abbrev IsFound : ℕ → List ℕ → List (List ℕ) → Type 0
IsFound limit block xs = (y : List ℕ) × (first_within limit block xs ≡ Some y)

found-next : (limit : ℕ) (block x : List ℕ) (xs : List (List ℕ)) → (limit < errors block x → IsFound limit block xs) → IsFound limit block (x ∷ xs)
found-next limit block x xs later =
    elim (cases_lt limit (errors block x)) [
      | inl over ↦ let rest = later over in (rest.0, first-more limit block x xs over ∙ rest.1)
      | inr within ↦ (x, first-here limit block x xs within)
    ]

first-own : (limit : ℕ) (block information : List ℕ) (n : ℕ) → errors block information ≤ limit → IsFound limit block (near information n)
first-own limit block information zero within = found-next limit block information [] (λ over. absurd (omega arith))
first-own limit block information (suc n) within = found-next limit block (flipped information n) (near information n) (λ _. first-own limit block information n within)

first-turned : (limit : ℕ) (block information : List ℕ) (n k : ℕ) → k < n → errors block (flipped information k) ≤ limit → IsFound limit block (near information n)
first-turned limit block information zero k less within = absurd (omega arith)
first-turned limit block information (suc n) k less within =
    found-next limit block (flipped information n) (near information n) (λ over.
    let other : k ≢ n = λ (e : k ≡ n). let w : errors block (flipped information n) ≤ limit = subst (λ (m : ℕ). errors block (flipped information m) ≤ limit) e within in omega arith in
    first-turned limit block information n k (omega arith) within)

-- ---- the result of decoding
differences-append : (xs bs cs ds : List ℕ) → length xs ≡ length cs → differences (xs ++ bs) (cs ++ ds) ≡ differences xs cs + differences bs ds
differences-append [] bs [] ds l = omega arith
differences-append (x ∷ xs) bs (c ∷ cs) ds l = let rest = differences-append xs bs cs ds (omega arith) in omega arith
differences-append _ bs _ ds l = absurd (omega arith)

pub block-length : (own : List ℕ) (last : ℕ) → length own ≡ 7 → length (own ++ last ∷ []) ≡ 8
block-length own last l = length-append own (last ∷ []) ∙ omega arith

-- if some information is within the limit, which is at most 1, a candidate near the block is found
some-found : (own information : List ℕ) (last limit : ℕ) → IsInformation own → IsInformation information → limit ≤ 1 → errors (own ++ last ∷ []) information ≤ limit
    → IsFound limit (own ++ last ∷ []) (near own 56)
some-found own information last limit good is low within =
    let block = own ++ last ∷ [] in
    let long : length (bits_of own) ≡ length (bits_of information) = fifty-six own good.seven ∙ sym (fifty-six information is.seven) in
    let split : errors block information ≡ differences (bits_of own) (bits_of information) + differences (seven (last / 2)) (seven (parity_of information * 2 / 2)) =
    ap (λ (x : List ℕ). differences x (word (code_block information))) (word-parts own last good.seven)
    ∙ ap (differences (bits_of own ++ seven (last / 2))) (word-parts information (parity_of information * 2) is.seven)
    ∙ differences-append (bits_of own) (seven (last / 2)) (bits_of information) (seven (parity_of information * 2 / 2)) long in
    elim (cases_eq (differences (bits_of own) (bits_of information)) 0) [
      | inl none ↦
          let same_bits : bits_of own ≡ bits_of information = none-same (bits_of own) (bits_of information) long (are-bits own) (are-bits information) none in
          let is_own : information ≡ own = sym (bits-same own information good.each is.each (good.seven ∙ sym is.seven) same_bits) in
          first-own limit block own 56 (subst (λ (z : List ℕ). errors block z ≤ limit) is_own within)
      | inr some ↦
          let e = xors (bits_of own) (bits_of information) in
          let one : weight e ≡ 1 = sym (differences-weight (bits_of own) (bits_of information) (are-bits own) (are-bits information)) ∙ omega arith in
          let s = one-is e (xors-bits (bits_of own) (bits_of information) (are-bits own) (are-bits information)) one in
          let e_long : length e ≡ 56 = xors-length (bits_of own) (bits_of information) long ∙ fifty-six own good.seven in
          let k = s.0 in
          let k_less : k < 56 = let a = s.1 in omega arith in
          let is_bits : bits_of (flipped own k) ≡ bits_of information =
          bits-turned own k 56 (fifty-six own good.seven) k_less ∙ ap (xors (bits_of own)) (ap (single k) (sym e_long) ∙ sym s.2) ∙ xors-back (bits_of own) (bits_of information) long in
          let good' = turned-good own k good in
          let is_turned : information ≡ flipped own k = sym (bits-same (flipped own k) information good'.each is.each (good'.seven ∙ sym is.seven) is_bits) in
          first-turned limit block own 56 k k_less (subst (λ (z : List ℕ). errors block z ≤ limit) is_turned within)
    ]

decoded-is : (mode : Mode) (own : List ℕ) (last : ℕ) → length own ≡ 7 → decoded mode (own ++ last ∷ []) ≡ first_within (most_errors mode) (own ++ last ∷ []) (near own 56)
unfolding decoded
decoded-is mode own last l = ap (λ (x : List ℕ). first_within (most_errors mode) (own ++ last ∷ []) (near x 56)) (take_at own (last ∷ []) 7 l)

pub found : (mode : Mode) (own : List ℕ) (last : ℕ) (y : List ℕ) → IsInformation own → decoded mode (own ++ last ∷ []) ≡ Some y
    → IsInformation y × (errors (own ++ last ∷ []) y ≤ most_errors mode)
found mode own last y good h =
    let f : first_within (most_errors mode) (own ++ last ∷ []) (near own 56) ≡ Some y = sym (decoded-is mode own last good.seven) ∙ h in
    first-good (most_errors mode) (own ++ last ∷ []) own 56 y good f

pub taken : (mode : Mode) (own : List ℕ) (last : ℕ) (information : List ℕ) → IsInformation own → IsInformation information → errors (own ++ last ∷ []) information ≤ most_errors mode
    → decoded mode (own ++ last ∷ []) ≡ Some information
taken mode own last information good is within =
    let low = few mode in
    let s = some-found own information last (most_errors mode) good is low within in
    let h : decoded mode (own ++ last ∷ []) ≡ Some s.0 = decoded-is mode own last good.seven ∙ s.1 in
    let f = found mode own last s.0 good h in
    let f1 = f.1 in
    h ∙ ap (λ (x : List ℕ). Some x) (between (own ++ last ∷ []) s.0 information (block-length own last good.seven) f.0 is (omega arith))

none-or : (o : Option (List ℕ)) → (o ≡ None) ⊎ ((y : List ℕ) × (o ≡ Some y))
none-or None = inl refl
none-or (Some y) = inr (y, refl)

refused : (mode : Mode) (own : List ℕ) (last : ℕ) (information : List ℕ) → IsInformation own → IsInformation information
    → most_errors mode < errors (own ++ last ∷ []) information → errors (own ++ last ∷ []) information + most_errors mode ≤ 3 → decoded mode (own ++ last ∷ []) ≡ None
refused mode own last information good is over under =
    elim (none-or (decoded mode (own ++ last ∷ []))) [
      | inl none ↦ none
      | inr some ↦
          let f = found mode own last some.0 good some.1 in
          let f1 = f.1 in
          let same_one : some.0 ≡ information = between (own ++ last ∷ []) some.0 information (block-length own last good.seven) f.0 is (omega arith) in
          let w : errors (own ++ last ∷ []) information ≤ most_errors mode = subst (λ (z : List ℕ). errors (own ++ last ∷ []) z ≤ most_errors mode) same_one f1 in
          absurd (omega arith)
    ]

-- ---- decoding by the syndrome
unfoldable pub syndrome : List ℕ → ℕ → ℕ
syndrome own last = bit_xor (parity_of own) (last / 2)

left-syndrome : (own : List ℕ) (last : ℕ) → IsInformation own → last < 256 → left (word (own ++ last ∷ [])) ≡ bit_xor 127 (syndrome own last)
unfolding syndrome
left-syndrome own last good fits =
    let r = block_remainder 0 (bits_of own) in
    word-left own last good.seven fits ∙ sym (again 127 (bit_xor r (last / 2))) ∙ ap (bit_xor 127) (sym (xor_assoc 127 r (last / 2)))

differences-self : (bs : List ℕ) → AreBits bs → differences bs bs ≡ 0
differences-self [] p = refl
differences-self (zero ∷ bs) p = let rest = differences-self bs p.1 in omega arith
differences-self (suc zero ∷ bs) p = let rest = differences-self bs p.1 in omega arith
differences-self (suc (suc b) ∷ bs) p = absurd (omega arith)

pub none-wrong : (mode : Mode) (own : List ℕ) (last : ℕ) → IsInformation own → last < 256 → syndrome own last ≡ 0 → decoded mode (own ++ last ∷ []) ≡ Some own
none-wrong mode own last good fits s =
    let l : left (word (own ++ last ∷ [])) ≡ 127 = left-syndrome own last good fits ∙ ap (bit_xor 127) s in
    let w = left-block own last good.seven fits l in
    let own_bits = word-bits (own ++ last ∷ []) (block-length own last good.seven) in
    let e : errors (own ++ last ∷ []) own ≡ 0 = sym (ap (differences (word (own ++ last ∷ []))) w) ∙ differences-self (word (own ++ last ∷ [])) own_bits.1 in
    taken mode own last own good good (omega arith)

-- if inverting bit `k` makes the block a code block, correction yields the octets of that code block
one-turned : (own : List ℕ) (last k : ℕ) (own' : List ℕ) (last' : ℕ) → IsInformation own → last < 256 → k < 63 → left (single k 63) ≡ syndrome own last
    → IsInformation own' → last' < 256 → flipped (own ++ last ∷ []) k ≡ own' ++ last' ∷ [] → decoded Correct (own ++ last ∷ []) ≡ Some own'
one-turned own last k own' last' good fits less s good' fits' is =
    let block = own ++ last ∷ [] in
    let l = block-length own last good.seven in
    let wb = word-bits block l in
    let w : word (own' ++ last' ∷ []) ≡ xors (word block) (single k 63) = ap word (sym is) ∙ word-turned block k l less in
    let c : left (word (own' ++ last' ∷ [])) ≡ 127 =
    ap left w ∙ left-linear (word block) (single k 63) (wb.0 ∙ sym (single-length k 63))
    ∙ ap (λ (x : ℕ). bit_xor x (left (single k 63))) (left-syndrome own last good fits) ∙ ap (bit_xor (bit_xor 127 (syndrome own last))) s ∙ twice 127 (syndrome own last) in
    let code : xors (word block) (single k 63) ≡ word (code_block own') = sym w ∙ left-block own' last' good'.seven fits' c in
    let cb = word-bits (code_block own') (code-length own' good') in
    let e : errors block own' ≡ 1 =
    differences-weight (word block) (word (code_block own')) wb.1 cb.1 ∙ ap (λ (x : List ℕ). weight (xors (word block) x)) (sym code)
    ∙ ap weight (xors-back (word block) (single k 63) (wb.0 ∙ sym (single-length k 63))) ∙ single-weight k 63 less in
    taken Correct own last own' good good' (omega arith)

information-wrong : (own : List ℕ) (last : ℕ) → IsInformation own → last < 256 → syndrome own last < 128 → placed (syndrome own last) < 56
    → decoded Correct (own ++ last ∷ []) ≡ Some (flipped own (placed (syndrome own last)))
information-wrong own last good fits small less =
    let k = placed (syndrome own last) in
    let seven_long = good.seven in
    one-turned own last k (flipped own k) last good fits (omega arith) (placed-is (syndrome own last) small (omega arith)) (turned-good own k good) fits
    (turned-front own (last ∷ []) k (omega arith))

parity-wrong : (own : List ℕ) (last : ℕ) → IsInformation own → last < 256 → syndrome own last < 128 → 56 ≤ placed (syndrome own last) → placed (syndrome own last) < 63
    → decoded Correct (own ++ last ∷ []) ≡ Some own
parity-wrong own last good fits small more less =
    let k = placed (syndrome own last) in
    let seven_long = good.seven in
    one-turned own last k own (bit_xor last (128 / 2 ^ (k % 8))) good fits less (placed-is (syndrome own last) small less) good (turned-fits last (k % 8) fits)
    (turned-last own last k (omega arith))

pub one-wrong : (own : List ℕ) (last : ℕ) → IsInformation own → last < 256 → syndrome own last < 128 → placed (syndrome own last) < 63
    → decoded Correct (own ++ last ∷ []) ≡ Some (flipped own (placed (syndrome own last)))
one-wrong own last good fits small less =
    elim (cases_lt (placed (syndrome own last)) 56) [
      | inl low ↦ information-wrong own last good fits small low
      | inr high ↦
          let seven_long = good.seven in
          parity-wrong own last good fits small high less ∙ ap (λ (x : List ℕ). Some x) (sym (turned-past own (placed (syndrome own last)) (omega arith)))
    ]

-- a block without errors has the syndrome 0
syndrome-none : (own : List ℕ) (last : ℕ) (y : List ℕ) → IsInformation own → last < 256 → IsInformation y → errors (own ++ last ∷ []) y ≡ 0 → syndrome own last ≡ 0
syndrome-none own last y good fits is h =
    let a = word-bits (own ++ last ∷ []) (block-length own last good.seven) in let b = word-bits (code_block y) (code-length y is) in
    let w = none-same (word (own ++ last ∷ [])) (word (code_block y)) (a.0 ∙ sym b.0) a.1 b.1 h in
    let l : bit_xor 127 (syndrome own last) ≡ 127 = sym (left-syndrome own last good fits) ∙ ap left w ∙ block-left y is.seven in
    sym (again 127 (syndrome own last)) ∙ ap (bit_xor 127) l ∙ xor_self 127

pub some-wrong : (own : List ℕ) (last : ℕ) → IsInformation own → last < 256 → syndrome own last ≢ 0 → decoded Detect (own ++ last ∷ []) ≡ None
some-wrong own last good fits wrong =
    elim (none-or (decoded Detect (own ++ last ∷ []))) [
      | inl none ↦ none
      | inr some ↦ let f = found Detect own last some.0 good some.1 in let f1 = f.1 in absurd (wrong (syndrome-none own last some.0 good fits f.0 (omega arith)))
    ]

pub more-wrong : (own : List ℕ) (last : ℕ) → IsInformation own → last < 256 → syndrome own last ≢ 0 → 63 ≤ placed (syndrome own last) → decoded Correct (own ++ last ∷ []) ≡ None
more-wrong own last good fits wrong far =
    elim (none-or (decoded Correct (own ++ last ∷ []))) [
      | inl none ↦ none
      | inr some ↦
          let block = own ++ last ∷ [] in
          let y = some.0 in
          let f = found Correct own last y good some.1 in
          let f1 = f.1 in
          let a = word-bits block (block-length own last good.seven) in let b = word-bits (code_block y) (code-length y f.0) in
          absurd (elim (cases_eq (errors block y) 0) [
            | inl none ↦ wrong (syndrome-none own last y good fits f.0 none)
            | inr not_none ↦
                let e = xors (word block) (word (code_block y)) in
                let one : weight e ≡ 1 = sym (differences-weight (word block) (word (code_block y)) a.1 b.1) ∙ omega arith in
                let s = one-is e (xors-bits (word block) (word (code_block y)) a.1 b.1) one in
                let e_long : length e ≡ 63 = xors-length (word block) (word (code_block y)) (a.0 ∙ sym b.0) ∙ a.0 in
                let k_less : s.0 < 63 = let t = s.1 in omega arith in
                let l : left (single s.0 63) ≡ syndrome own last =
                ap (λ (n : ℕ). left (single s.0 n)) (sym e_long) ∙ ap left (sym s.2) ∙ left-linear (word block) (word (code_block y)) (a.0 ∙ sym b.0)
                ∙ ap (λ (x : ℕ). bit_xor x (left (word (code_block y)))) (left-syndrome own last good fits) ∙ ap (bit_xor (bit_xor 127 (syndrome own last))) (block-left y f.0.seven)
                ∙ ap (λ (x : ℕ). bit_xor x 127) (xor_comm 127 (syndrome own last)) ∙ twice (syndrome own last) 127 in
                let p : placed (syndrome own last) ≡ s.0 = ap placed (sym l) ∙ place-of s.0 k_less in
                omega arith
          ])
    ]

pub syndrome-is : (own : List ℕ) (last p : ℕ) → p ≡ parity_of own → bit_xor p (last / 2) ≡ syndrome own last
unfolding syndrome
syndrome-is own last p h = ap (λ (x : ℕ). bit_xor x (last / 2)) h

-- ---- decoding in the form that the code has, with `p` for the parity bits
pub right_by : (mode : Mode) (own : List ℕ) (last p : ℕ) → IsOctets own → length own ≡ 7 → last < 256 → p ≡ parity_of own → bit_xor p (last / 2) ≡ 0 → decoded mode (own ++ last ∷ []) ≡ Some own
right_by mode own last p each seven fits is none = none-wrong mode own last (record { each = each; seven = seven }) fits (sym (syndrome-is own last p is) ∙ none)

pub wrong_by : (own : List ℕ) (last p : ℕ) → IsOctets own → length own ≡ 7 → last < 256 → p ≡ parity_of own → bit_xor p (last / 2) ≢ 0 → decoded Detect (own ++ last ∷ []) ≡ None
wrong_by own last p each seven fits is some = some-wrong own last (record { each = each; seven = seven }) fits (λ z. some (syndrome-is own last p is ∙ z))

-- ---- decoding of a block that is given in two parts
pub found-option : (mode : Mode) (block own : List ℕ) (last : ℕ) (o : Option (List ℕ)) → IsInformation own → block ≡ own ++ last ∷ [] → o ≡ decoded mode block
    → IfSome o (λ y. IsInformation y × (errors block y ≤ most_errors mode))
found-option mode block own last None good is h = tt
found-option mode block own last (Some y) good is h =
    subst (λ (b : List ℕ). IsInformation y × (errors b y ≤ most_errors mode)) (sym is) (found mode own last y good (sym (h ∙ ap (decoded mode) is)))

pub taken-option : (mode : Mode) (block own : List ℕ) (last : ℕ) (o : Option (List ℕ)) → IsInformation own → block ≡ own ++ last ∷ [] → o ≡ decoded mode block
    → (information : List ℕ) → IsInformation information → errors block information ≤ most_errors mode → o ≡ Some information
taken-option mode block own last o good is h information i within =
    h ∙ ap (decoded mode) is ∙ taken mode own last information good i (subst (λ (b : List ℕ). errors b information ≤ most_errors mode) is within)

pub refused-option : (mode : Mode) (block own : List ℕ) (last : ℕ) (o : Option (List ℕ)) → IsInformation own → block ≡ own ++ last ∷ [] → o ≡ decoded mode block
    → (information : List ℕ) → IsInformation information → most_errors mode < errors block information → errors block information + most_errors mode ≤ 3 → o ≡ None
refused-option mode block own last o good is h information i over under =
    h ∙ ap (decoded mode) is ∙ refused mode own last information good i
    (subst (λ (b : List ℕ). most_errors mode < errors b information) is over) (subst (λ (b : List ℕ). errors b information + most_errors mode ≤ 3) is under)

-- ---- lists of seven and of eight
pub seven-list : (xs : List ℕ) → length xs ≡ 7
    → xs ≡ get_or xs 0 0 ∷ get_or xs 1 0 ∷ get_or xs 2 0 ∷ get_or xs 3 0 ∷ get_or xs 4 0 ∷ get_or xs 5 0 ∷ get_or xs 6 0 ∷ []
seven-list (a ∷ b ∷ c ∷ d ∷ e ∷ f ∷ g ∷ []) l = refl
seven-list _ l = absurd (omega arith)

pub eight_list : (xs : List ℕ) → length xs ≡ 8
    → xs ≡ get_or xs 0 0 ∷ get_or xs 1 0 ∷ get_or xs 2 0 ∷ get_or xs 3 0 ∷ get_or xs 4 0 ∷ get_or xs 5 0 ∷ get_or xs 6 0 ∷ get_or xs 7 0 ∷ []
eight_list [] l = absurd (omega arith)
eight_list (a ∷ xs) l = ap (λ (x : List ℕ). a ∷ x) (seven-list xs (omega arith))
