-- A header and a data field make exactly one frame.
use Rattle.std.proofs.Common.{◌≡◌, ℕ, zero, suc, ◌+◌, ◌*◌, ◌/◌, ◌%◌, ◌<◌, ◌≤◌, Bool, true, false, eqb, List, [], ◌∷◌, ◌++◌, drop, length, refl, ap, sym, subst, ◌∙◌, arith}
use Rattle.std.proofs.lemmas.Bool.{eqb-true}
use Rattle.std.proofs.lemmas.List.{get_or-drop, length-drop}
use Rattle.tc_link.specs.declared.frame.Header.{Header}
use Rattle.tc_link.specs.Bits.{bit}
use Rattle.tc_link.specs.Frame.{IsOctets, IsFrame, IsHeader, IsField, header_of, version_of, spare_of, named_length}

-- five octets and a data field of 1 to 1,019 octets are a frame with this header, if the five octets spell the header,
-- the version 0, spare bits 0 and the length of the whole frame
pub framed : (five field : List ℕ) (header : Header) → length five ≡ 5 → header_of five ≡ header → version_of five ≡ 0 → spare_of five ≡ 0
    → named_length five ≡ length field + 5 → 1 ≤ length field → length field ≤ 1019 → IsOctets (five ++ field) → IsFrame (five ++ field) header field
framed (a ∷ b ∷ c ∷ d ∷ e ∷ []) field header five says version spare named least most each = record {
  whole = record { each = each; least = omega arith; most = omega arith; version = version; spare = spare; named = omega arith };
  header_bits = sym says;
  rest = refl;
}
framed _ field header five says version spare named least most each = absurd (omega arith)

pub octets-cons : (x : ℕ) (xs : List ℕ) → x < 256 → IsOctets xs → IsOctets (x ∷ xs)
octets-cons x xs fits each zero = fits
octets-cons x xs fits each (suc i) = each i

octets-none : IsOctets []
octets-none zero = omega arith
octets-none (suc i) = omega arith

octets-tail : (x : ℕ) (xs : List ℕ) → IsOctets (x ∷ xs) → IsOctets xs
octets-tail x xs each i = each (suc i)

pub octets-append : (xs ys : List ℕ) → IsOctets xs → IsOctets ys → IsOctets (xs ++ ys)
octets-append [] ys each more = more
octets-append (x ∷ xs) ys each more = octets-cons x (xs ++ ys) (each 0) (octets-append xs ys (octets-tail x xs each) more)

-- the five octets that spell two words and N(S)
abbrev octets_of : ℕ → ℕ → ℕ → List ℕ
octets_of first second ns = first / 256 ∷ first % 256 ∷ second / 256 ∷ second % 256 ∷ ns ∷ []

first_of : Bool → Bool → ℕ → ℕ
first_of bypass control scid = bit bypass * 8192 + bit control * 4096 + scid

first-fits : (bypass control : Bool) (scid : ℕ) → scid < 1024 → first_of bypass control scid < 16384
unfolding first_of
first-fits true true scid fits = omega arith
first-fits false true scid fits = omega arith
first-fits _ _ scid fits = omega arith

spare-none : (bypass control : Bool) (scid : ℕ) → scid < 1024 → first_of bypass control scid / 1024 % 4 ≡ 0
unfolding first_of
spare-none true true scid fits = omega arith
spare-none false true scid fits = omega arith
spare-none _ _ scid fits = omega arith

says : (bypass control : Bool) (scid vcid ns m : ℕ) → scid < 1024 → vcid < 64 → m < 1024
    → header_of (octets_of (first_of bypass control scid) (vcid * 1024 + m) ns) ≡ record { bypass = bypass; control = control; scid = scid; vcid = vcid; ns = ns }
unfolding first_of
says true true scid vcid ns m one two three = grind arith
says true false scid vcid ns m one two three = grind arith
says false true scid vcid ns m one two three = grind arith
says false false scid vcid ns m one two three = grind arith

pub frame-of : (header : Header) (field : List ℕ) → IsHeader header → IsField field → (frame : List ℕ) × IsFrame frame header field
frame-of header field fits is_field =
    let first = first_of header.bypass header.control header.scid in
    let second = header.vcid * 1024 + (length field + 4) in
    let vcid_fits = fits.vcid in
    let most = is_field.most in
    let low : first < 16384 = first-fits header.bypass header.control header.scid fits.scid in
    let spare : first / 1024 % 4 ≡ 0 = spare-none header.bypass header.control header.scid fits.scid in
    let five = octets_of first second header.ns in
    let each : IsOctets five =
    octets-cons (first / 256) (first % 256 ∷ second / 256 ∷ second % 256 ∷ header.ns ∷ []) (omega arith)
    (octets-cons (first % 256) (second / 256 ∷ second % 256 ∷ header.ns ∷ []) (omega arith)
    (octets-cons (second / 256) (second % 256 ∷ header.ns ∷ []) (omega arith)
    (octets-cons (second % 256) (header.ns ∷ []) (omega arith)
    (octets-cons header.ns [] fits.ns octets-none)))) in (
      five ++ field,
      framed five field header refl
          (says header.bypass header.control header.scid header.vcid header.ns (length field + 4) fits.scid fits.vcid (omega arith))
          (omega arith) (omega arith) (omega arith) is_field.least is_field.most (octets-append five field each is_field.each),
    )

flags-alike : (x y : ℕ) → eqb (x % 2) 1 ≡ eqb (y % 2) 1 → x % 2 ≡ y % 2
flags-alike x y same = grind (arith, eqb-true)

-- two values of the first word are equal if the fields in them are equal
first-alike : (x y : ℕ) → x < 65536 → y < 65536 → x / 16384 % 4 ≡ 0 → y / 16384 % 4 ≡ 0 → x / 1024 % 4 ≡ 0 → y / 1024 % 4 ≡ 0
    → x / 8192 % 2 ≡ y / 8192 % 2 → x / 4096 % 2 ≡ y / 4096 % 2 → x % 1024 ≡ y % 1024 → x ≡ y
first-alike x y xs ys v w s t b c i = omega arith

pub only-frame : (one other field : List ℕ) (header : Header) → IsFrame one header field → IsFrame other header field → one ≡ other
only-frame (a ∷ b ∷ c ∷ d ∷ e ∷ one) (a' ∷ b' ∷ c' ∷ d' ∷ e' ∷ other) field header f g =
    let ea = f.whole.each 0 in let eb = f.whole.each 1 in let ec = f.whole.each 2 in let ed = f.whole.each 3 in
    let ga = g.whole.each 0 in let gb = g.whole.each 1 in let gc = g.whole.each 2 in let gd = g.whole.each 3 in
    let heads : header_of (a ∷ b ∷ c ∷ d ∷ e ∷ one) ≡ header_of (a' ∷ b' ∷ c' ∷ d' ∷ e' ∷ other) = sym f.header_bits ∙ g.header_bits in
    let rest : one ≡ other = sym f.rest ∙ g.rest in
    let first : 256 * a + b ≡ 256 * a' + b' = first-alike _ _ (omega arith) (omega arith) f.whole.version g.whole.version f.whole.spare g.whole.spare
    (flags-alike ((256 * a + b) / 8192) ((256 * a' + b') / 8192) (ap (λ (h : Header). h.bypass) heads))
    (flags-alike ((256 * a + b) / 4096) ((256 * a' + b') / 4096) (ap (λ (h : Header). h.control) heads))
    (let i = ap (λ (h : Header). h.scid) heads in omega arith) in
    let lengths : length one ≡ length other = ap (λ (xs : List ℕ). length xs) rest in
    let named = f.whole.named in let other_named = g.whole.named in
    let vcids = ap (λ (h : Header). h.vcid) heads in
    let second : 256 * c + d ≡ 256 * c' + d' = omega arith in
    let ns : e ≡ e' = ap (λ (h : Header). h.ns) heads in
    let ia : a ≡ a' = omega arith in let ib : b ≡ b' = omega arith in let ic : c ≡ c' = omega arith in let id : d ≡ d' = omega arith in
    cc
only-frame _ _ field header f g = let l = f.whole.least in let m = g.whole.least in absurd (omega arith)

octets-drop : (n : ℕ) (xs : List ℕ) → IsOctets xs → IsOctets (drop n xs)
octets-drop n xs each i = subst (λ (x : ℕ). x < 256) (sym (get_or-drop n xs i 0)) (each (n + i))

pub field-fits : (frame field : List ℕ) (header : Header) → IsFrame frame header field → IsField field
field-fits frame field header f =
    let least = f.whole.least in let most = f.whole.most in
    subst IsField (sym f.rest) record {
      each = octets-drop 5 frame f.whole.each;
      least = omega (arith, length-drop 5 frame);
      most = omega (arith, length-drop 5 frame);
    }
