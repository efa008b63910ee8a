-- Each unit has exactly one cut.
use Rattle.std.proofs.Common.{◌≡◌, ◌≢◌, ℕ, zero, suc, ◌+◌, ◌≤◌, Bool, true, false, List, [], ◌∷◌, ◌++◌, length, take, drop, refl, sym, ap, subst, ◌∙◌, arith, append_assoc}
use Rattle.tc_packet.proofs.Names.{common_steps, nat_tests}
use Rattle.std.proofs.lemmas.List.{get_or-take, take-append-drop, take_at, drop_at, length-append, length-take, length-drop, drop-drop, take_min}
use Rattle.tc_packet.specs.SpacePacket.{IsPacket, IsCut, joined, version_of, named_length, begins, packets_within, packets_of, rest_of}

-- a front of at least 7 octets has the version and the named length of the whole list
version-front : (n : ℕ) (u : List ℕ) → 7 ≤ n → version_of (take n u) ≡ version_of u
version-front n u h = rw (get_or-take n u 0 0 (omega arith), get_or-take n u 1 0 (omega arith)) refl

named-front : (n : ℕ) (u : List ℕ) → 7 ≤ n → named_length (take n u) ≡ named_length u
named-front n u h = rw (get_or-take n u 4 0 (omega arith), get_or-take n u 5 0 (omega arith)) refl

abbrev Fits : List ℕ → Type 0
Fits u = (7 ≤ length u) × (version_of u ≡ 0) × (named_length u ≤ 65542) × (named_length u ≤ length u)

fits-begins : (u : List ℕ) → begins u ≡ true → Fits u
fits-begins u h = grind (arith, nat_tests, common_steps)

begins-fits : (u : List ℕ) → Fits u → begins u ≡ true
begins-fits u h = grind (arith, nat_tests, common_steps)

pub packet-begins : (u : List ℕ) → begins u ≡ true → IsPacket (take (named_length u) u)
packet-begins u h =
    let f = fits-begins u h in
    let len : length (take (named_length u) u) ≡ named_length u = omega (arith, length-take (named_length u) u) in
    record {
      least = omega arith;
      most = omega arith;
      version = version-front (named_length u) u (omega arith) ∙ f.1;
      named = named-front (named_length u) u (omega arith) ∙ sym len;
    }

pub begins-packet : (n : ℕ) (u : List ℕ) → IsPacket (take n u) → (begins u ≡ true) × (named_length u ≡ length (take n u))
begins-packet n u p =
    let l = length-take n u in
    let least = p.least in
    let seven : 7 ≤ n = omega arith in
    let named : named_length u ≡ length (take n u) = sym (named-front n u seven) ∙ p.named in
    let most = p.most in
    (begins-fits u (omega arith, sym (version-front n u seven) ∙ p.version, omega arith, omega arith), named)

abbrev pub within : ℕ → List ℕ → List ℕ
within n u = drop (length (joined (packets_within n u))) u

-- if the octets begin with a packet, their rest is the rest of the octets after that packet
within-more : (n : ℕ) (u : List ℕ) → begins u ≡ true → within (suc n) u ≡ within n (drop (named_length u) u)
within-more n u h =
    let f = fits-begins u h in
    let m = named_length u in
    let ps = packets_within n (drop m u) in
    let len : length (take m u ++ joined ps) ≡ m + length (joined ps) = omega (arith, length-take m u, length-append (take m u) (joined ps)) in
    rw h (ap (λ (k : ℕ). drop k u) len ∙ sym (drop-drop (length (joined ps)) m u))

pub is-cut : (n : ℕ) (u : List ℕ) → length u ≤ n → IsCut u (packets_within n u) (within n u)
is-cut zero u small = record { parts = refl; each = tt; ends = λ k p. absurd (let l = p.least in omega (arith, length-take k u)) }
is-cut (suc n) u small = by (begins u) refl (λ (h : length (drop (named_length u) u) ≤ n). is-cut n (drop (named_length u) u) h) where
  by : (t : Bool) → begins u ≡ t → (length (drop (named_length u) u) ≤ n → IsCut (drop (named_length u) u) (packets_within n (drop (named_length u) u)) (within n (drop (named_length u) u)))
      → IsCut u (packets_within (suc n) u) (within (suc n) u)
  by true h rest_cut =
      let f = fits-begins u h in
      let m = named_length u in
      let ih = rest_cut (omega (arith, length-drop m u)) in
      rw (within-more n u h, h) (record {
        parts = sym (append_assoc (take m u) (joined (packets_within n (drop m u))) (within n (drop m u)) ∙ ap (λ (x : List ℕ). take m u ++ x) (sym ih.parts) ∙ take-append-drop m u);
        each = (packet-begins u h, ih.each);
        ends = ih.ends;
      })
  by false h rest_cut = rw h (record { parts = refl; each = tt; ends = λ k p. absurd (let q = begins-packet k u p in cc (h, q.0)) })

go-on : (n : ℕ) (u p : List ℕ) (ps : List (List ℕ)) (rest : List ℕ) → length u ≤ n → begins u ≡ true → named_length u ≡ length p → take (length p) u ≡ p → drop (length p) u ≡ joined ps ++ rest
    → ((m : ℕ) → length (drop (named_length u) u) ≤ m → (ps ≡ packets_within m (drop (named_length u) u)) × (rest ≡ within m (drop (named_length u) u)))
    → (p ∷ ps ≡ packets_within n u) × (rest ≡ within n u)
go-on zero u p ps rest small h named front back ih = absurd (let f = fits-begins u h in omega arith)
go-on (suc n) u p ps rest small h named front back ih =
    let f = fits-begins u h in
    let i = ih n (omega (arith, length-drop (named_length u) u)) in
    let one : take (named_length u) u ≡ p = rw named front in
    rw (within-more n u h) (rw (h, one) (ap (λ (x : List (List ℕ)). p ∷ x) i.0, i.1))

pub only-cut : (n : ℕ) (u : List ℕ) (ps : List (List ℕ)) (rest : List ℕ) → length u ≤ n → IsCut u ps rest → (ps ≡ packets_within n u) × (rest ≡ within n u)
only-cut n u [] rest small cut = by n (begins u) refl where
  none : begins u ≢ true
  none h = cut.ends (named_length u) (subst (λ (x : List ℕ). IsPacket (take (named_length u) x)) cut.parts (packet-begins u h))

  by : (n : ℕ) (t : Bool) → begins u ≡ t → ([] ≡ packets_within n u) × (rest ≡ within n u)
  by zero t h = (refl, sym cut.parts)
  by (suc n) true h = absurd (none h)
  by (suc n) false h = rw h (refl, sym cut.parts)
only-cut n u (p ∷ ps) rest small cut =
    let whole : u ≡ p ++ (joined ps ++ rest) = cut.parts ∙ append_assoc p (joined ps) rest in
    let front : take (length p) u ≡ p = rw whole (take_at p (joined ps ++ rest) (length p) refl) in
    let back : drop (length p) u ≡ joined ps ++ rest = rw whole (drop_at p (joined ps ++ rest) (length p) refl) in
    let packet : IsPacket (take (length p) u) = rw front cut.each.0 in
    let b = begins-packet (length p) u packet in
    let named : named_length u ≡ length p = b.1 ∙ ap length front in
    go-on n u p ps rest small b.0 named front back (λ m h. only-cut m (drop (named_length u) u) ps rest h (record { parts = rw named back; each = cut.each.1; ends = cut.ends }))

-- two packets at the front of a list are equal, since both have the length that the header names
pub one-front : (u : List ℕ) (n m : ℕ) → IsPacket (take n u) → IsPacket (take m u) → take n u ≡ take m u
one-front u n m p q =
    let a = begins-packet n u p in
    let b = begins-packet m u q in
    let front : (k : ℕ) → take k u ≡ take (length (take k u)) u = λ k. sym (ap (λ (j : ℕ). take j u) (length-take k u) ∙ take_min k u) in
    front n ∙ ap (λ (k : ℕ). take k u) (sym a.1 ∙ b.1) ∙ sym (front m)

-- If a unit begins with a packet, that packet is the first of its cut. The cut's other packets and its rest are those
-- of the octets after that packet.
pub cut-next : (u p : List ℕ) → IsPacket p → p ≡ take (length p) u → (packets_of u ≡ p ∷ packets_of (drop (length p) u)) × (rest_of u ≡ rest_of (drop (length p) u))
cut-next u p packet front =
    let after = drop (length p) u in
    let cut = is-cut (length after) after (omega arith) in
    let parts : u ≡ joined (p ∷ packets_of after) ++ rest_of after =
    sym (take-append-drop (length p) u) ∙ ap (λ (x : List ℕ). take (length p) u ++ x) cut.parts
    ∙ ap (λ (x : List ℕ). x ++ (joined (packets_of after) ++ rest_of after)) (sym front) ∙ sym (append_assoc p (joined (packets_of after)) (rest_of after)) in
    let only = only-cut (length u) u (p ∷ packets_of after) (rest_of after) (omega arith) (record { parts = parts; each = (packet, cut.each); ends = cut.ends }) in
    (sym only.0, sym only.1)

-- if a unit doesn't begin with a packet, all of it is rest
pub cut-end : (u : List ℕ) → ((n : ℕ) → IsPacket (take n u) → ⊥) → (packets_of u ≡ []) × (rest_of u ≡ u)
cut-end u none =
    let only = only-cut (length u) u [] u (omega arith) (record { parts = refl; each = tt; ends = none }) in
    (sym only.0, sym only.1)
