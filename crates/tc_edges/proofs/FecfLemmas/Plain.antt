-- A frame with its field, octet by octet.
use Rattle.std.proofs.Common.{◌≡◌, ℕ, zero, suc, ◌+◌, ◌-◌, ◌*◌, ◌/◌, ◌%◌, ◌^◌, ◌<◌, ◌≤◌, List, [], ◌∷◌, ◌++◌, length, get_or, drop, take, refl, ap, sym, ◌∙◌, subst, arith, length-append, length-take-le}
use Rattle.std.proofs.lemmas.Grind.{common_steps}
use Rattle.std.proofs.lemmas.List.{drop_all, drop_more, take_at, take-append-drop}
use Rattle.tc_link.specs.Frame.{IsOctets, IsWhole, IsFrame, header_of}
use Rattle.tc_link.proofs.Frames.{octets-cons, octets-append}
use Rattle.tc_edges.specs.Fecf.Checksum.{checksum_of}
use Rattle.tc_edges.specs.Fecf.FrameWithField.{spelled, octets_before_field, frame_with_field}
use Rattle.tc_edges.proofs.FecfLemmas.Closing.{sum-fits, closing, closed}

-- the first four octets of a frame, with `n` in place of the second 16-bit word
abbrev pub head : List ℕ → ℕ → List ℕ
head f n = get_or f 0 0 ∷ get_or f 1 0 ∷ n / 256 % 256 ∷ n % 256 ∷ []

pub second : List ℕ → ℕ
second f = get_or f 2 0 * 256 + get_or f 3 0

pub octets_before_field-is : (f : List ℕ) → IsWhole f → length f ≤ 1022 → head f (get_or f 2 0 * 256 + get_or f 3 0 + 2) ++ drop 4 f ≡ octets_before_field f
unfolding octets_before_field
octets_before_field-is (a ∷ b ∷ c ∷ d ∷ rest) w most =
    let c_fits = w.each 2 in let d_fits = w.each 3 in let named = w.named in
    let high : (c * 256 + d + 2) / 256 % 256 ≡ (256 * c + d + 2) / 256 = omega arith in
    let low : (c * 256 + d + 2) % 256 ≡ (256 * c + d + 2) % 256 = omega arith in
    ap (λ (x : ℕ). a ∷ b ∷ x ∷ (c * 256 + d + 2) % 256 ∷ rest) high ∙ ap (λ (x : ℕ). a ∷ b ∷ (256 * c + d + 2) / 256 ∷ x ∷ rest) low
octets_before_field-is _ w most = let l = w.least in absurd (omega arith)

pub frame_with_field-is : (f front : List ℕ) (s : ℕ) → front ≡ octets_before_field f → s ≡ checksum_of front → front ++ (s / 256 % 256 ∷ s % 256 ∷ []) ≡ frame_with_field f
unfolding frame_with_field
frame_with_field-is f front s is summed =
    let fits : checksum_of front < 2 ^ 16 = sum-fits front in
    let high : s / 256 % 256 ≡ checksum_of front / 256 = omega arith in
    let low : s % 256 ≡ checksum_of front % 256 = omega arith in
    ap (λ (x : ℕ). front ++ (x ∷ s % 256 ∷ [])) high ∙ ap (λ (x : ℕ). front ++ (checksum_of front / 256 ∷ x ∷ [])) low ∙ ap (λ (x : List ℕ). x ++ spelled (checksum_of x)) is

last-two : (rest : List ℕ) (m : ℕ) → length rest ≡ m + 2 → rest ≡ take m rest ++ (get_or rest m 0 ∷ get_or rest (m + 1) 0 ∷ [])
last-two rest m e =
    sym (take-append-drop m rest) ∙ ap (λ (x : List ℕ). take m rest ++ x) (drop_more rest m 0 (omega arith)
    ∙ ap (λ (x : List ℕ). get_or rest m 0 ∷ x) (drop_more rest (m + 1) 0 (omega arith) ∙ ap (λ (x : List ℕ). get_or rest (m + 1) 0 ∷ x) (drop_all (m + 1 + 1) rest (omega arith))))

octets_before_field-plain : (a b c d m : ℕ) (rest : List ℕ) → c < 256 → d < 256 → 2 ≤ 256 * c + d
    → octets_before_field (a ∷ b ∷ (c * 256 + d - 2) / 256 % 256 ∷ (c * 256 + d - 2) % 256 ∷ take m rest) ≡ a ∷ b ∷ c ∷ d ∷ take m rest
unfolding octets_before_field
octets_before_field-plain a b c d m rest c_fits d_fits some =
    let n = 256 * ((c * 256 + d - 2) / 256 % 256) + (c * 256 + d - 2) % 256 + 2 in
    let high : n / 256 ≡ c = omega arith in
    let low : n % 256 ≡ d = omega arith in
    ap (λ (x : ℕ). a ∷ b ∷ x ∷ n % 256 ∷ take m rest) high ∙ ap (λ (x : ℕ). a ∷ b ∷ c ∷ x ∷ take m rest) low

pub plain-right : (f p : List ℕ) → IsWhole f → 8 ≤ length f → checksum_of f ≡ 0
    → p ≡ head f (get_or f 2 0 * 256 + get_or f 3 0 - 2) ++ take (length f - 2 - 4) (drop 4 f) → f ≡ frame_with_field p
unfolding frame_with_field
plain-right (a ∷ b ∷ c ∷ d ∷ rest) p w least none is =
    let c_fits = w.each 2 in let d_fits = w.each 3 in let named = w.named in
    let m = length rest + 4 - 2 - 4 in
    let m_is : length (a ∷ b ∷ c ∷ d ∷ rest) - 2 - 4 ≡ m = omega arith in
    let h = get_or rest m 0 in let l = get_or rest (m + 1) 0 in
    let front = a ∷ b ∷ c ∷ d ∷ take m rest in
    let parts : a ∷ b ∷ c ∷ d ∷ rest ≡ front ++ (h ∷ l ∷ []) = ap (λ (x : List ℕ). a ∷ b ∷ c ∷ d ∷ x) (last-two rest m (omega arith)) in
    let r : octets_before_field p ≡ front = ap octets_before_field (is ∙ ap (λ (x : ℕ). a ∷ b ∷ (c * 256 + d - 2) / 256 % 256 ∷ (c * 256 + d - 2) % 256 ∷ take x rest) m_is) ∙ octets_before_field-plain a b c d m rest c_fits d_fits (omega arith) in
    let ends : h ∷ l ∷ [] ≡ spelled (checksum_of front) =
    closing front h l (w.each (suc (suc (suc (suc m))))) (w.each (suc (suc (suc (suc (m + 1)))))) (sym (ap checksum_of parts) ∙ none) in
    parts ∙ ap (λ (x : List ℕ). front ++ x) ends ∙ ap (λ (x : List ℕ). x ++ spelled (checksum_of x)) (sym r)
plain-right _ p w least none is = absurd (omega arith)

pub octets-take : (m : ℕ) (xs : List ℕ) → IsOctets xs → IsOctets (take m xs)
octets-take zero xs each zero = omega arith
octets-take zero xs each (suc i) = omega arith
octets-take (suc m) [] each i = each i
octets-take (suc m) (x ∷ xs) each zero = each 0
octets-take (suc m) (x ∷ xs) each (suc i) = octets-take m xs (λ k. each (suc k)) i

pub plain-whole : (f p : List ℕ) → IsWhole f → 8 ≤ length f
    → p ≡ head f (get_or f 2 0 * 256 + get_or f 3 0 - 2) ++ take (length f - 2 - 4) (drop 4 f) → IsWhole p
plain-whole (a ∷ b ∷ c ∷ d ∷ rest) p w least is =
    let a_fits = w.each 0 in let b_fits = w.each 1 in let c_fits = w.each 2 in let d_fits = w.each 3 in let named = w.named in let most = w.most in
    let version = w.version in let spare = w.spare in
    let m = length (a ∷ b ∷ c ∷ d ∷ rest) - 2 - 4 in
    let n = c * 256 + d - 2 in
    let high : 256 * (n / 256 % 256) + n % 256 ≡ n = omega arith in
    let m_is : length (take m rest) ≡ m = length-take-le m rest (omega arith) in
    let whole : IsWhole (a ∷ b ∷ n / 256 % 256 ∷ n % 256 ∷ take m rest) = record {
      each = octets-cons a (b ∷ n / 256 % 256 ∷ n % 256 ∷ take m rest) a_fits (octets-cons b (n / 256 % 256 ∷ n % 256 ∷ take m rest) b_fits
          (octets-cons (n / 256 % 256) (n % 256 ∷ take m rest) (omega arith) (octets-cons (n % 256) (take m rest) (omega arith)
          (octets-take m rest (λ k. w.each (suc (suc (suc (suc k)))))))));
      least = omega arith;
      most = omega arith;
      version = version;
      spare = spare;
      named = omega arith;
    } in
    subst IsWhole (sym is) whole
plain-whole _ p w least is = absurd (omega arith)

pub rest-of : (f : List ℕ) → take (length f - 4) (drop 4 f) ≡ drop 4 f
rest-of f = grind (arith, common_steps)

ends-alike : (xs ys us vs : List ℕ) → length xs ≡ length ys → xs ++ us ≡ ys ++ vs → xs ≡ ys
ends-alike xs ys us vs lengths e = sym (take_at xs us (length xs) refl) ∙ ap (take (length xs)) e ∙ take_at ys vs (length xs) (sym lengths)

octets_before_field-alike : (f g : List ℕ) → IsWhole f → IsWhole g → octets_before_field f ≡ octets_before_field g → f ≡ g
unfolding octets_before_field
octets_before_field-alike (a ∷ b ∷ c ∷ d ∷ rest) (a' ∷ b' ∷ c' ∷ d' ∷ rest') w v e =
    let d_fits = w.each 3 in let d_fits' = v.each 3 in
    let one : a ≡ a' = cc in
    let two : b ≡ b' = cc in
    let high : (256 * c + d + 2) / 256 ≡ (256 * c' + d' + 2) / 256 = cc in
    let low : (256 * c + d + 2) % 256 ≡ (256 * c' + d' + 2) % 256 = cc in
    let tails : rest ≡ rest' = cc in
    let three : c ≡ c' = omega arith in
    let four : d ≡ d' = omega arith in
    cc
octets_before_field-alike _ _ w v e = let l = w.least in let m = v.least in absurd (omega arith)

-- two frames are equal if they are equal with their fields
pub frame_with_field-alike : (f g : List ℕ) → IsWhole f → IsWhole g → frame_with_field f ≡ frame_with_field g → f ≡ g
unfolding frame_with_field
frame_with_field-alike f g w v e =
    let lf = length-append (octets_before_field f) (spelled (checksum_of (octets_before_field f))) in let lg = length-append (octets_before_field g) (spelled (checksum_of (octets_before_field g))) in
    let same : length (octets_before_field f ++ spelled (checksum_of (octets_before_field f))) ≡ length (octets_before_field g ++ spelled (checksum_of (octets_before_field g))) = ap (λ (x : List ℕ). length x) e in
    octets_before_field-alike f g w v (ends-alike (octets_before_field f) (octets_before_field g) (spelled (checksum_of (octets_before_field f))) (spelled (checksum_of (octets_before_field g))) (omega arith) e)

pub frame_with_field-passes : (f : List ℕ) → checksum_of (frame_with_field f) ≡ 0
unfolding frame_with_field
frame_with_field-passes f = closed (octets_before_field f)

octets-spelled : (n : ℕ) → n < 2 ^ 16 → IsOctets (spelled n)
octets-spelled n fits zero = omega arith
octets-spelled n fits (suc zero) = omega arith
octets-spelled n fits (suc (suc i)) = omega arith

-- a frame of at most 1,022 octets is, with its field, a frame with the same header fields
pub frame_with_field-frame : (f : List ℕ) → IsWhole f → length f ≤ 1022
    → IsFrame (frame_with_field f) (header_of f) (drop 5 f ++ spelled (checksum_of (octets_before_field f)))
unfolding frame_with_field octets_before_field
frame_with_field-frame (a ∷ b ∷ c ∷ d ∷ e ∷ rest) w most =
    let a_fits = w.each 0 in let b_fits = w.each 1 in let c_fits = w.each 2 in let d_fits = w.each 3 in
    let least = w.least in let named = w.named in let version = w.version in let spare = w.spare in
    let n = 256 * c + d + 2 in
    let field = spelled (checksum_of (a ∷ b ∷ n / 256 ∷ n % 256 ∷ e ∷ rest)) in
    let again : 256 * (n / 256) + n % 256 ≡ n = omega arith in
    let vcids : (256 * c + d) / 2 ^ 10 % 2 ^ 6 ≡ (256 * (n / 256) + n % 256) / 2 ^ 10 % 2 ^ 6 = omega arith in
    let each : IsOctets (a ∷ b ∷ n / 256 ∷ n % 256 ∷ e ∷ rest) =
    octets-cons a (b ∷ n / 256 ∷ n % 256 ∷ e ∷ rest) a_fits (octets-cons b (n / 256 ∷ n % 256 ∷ e ∷ rest) b_fits
    (octets-cons (n / 256) (n % 256 ∷ e ∷ rest) (omega arith) (octets-cons (n % 256) (e ∷ rest) (omega arith) (λ k. w.each (suc (suc (suc (suc k)))))))) in
    let lengths = length-append rest field in
    record {
      whole = record {
        each = octets-append (a ∷ b ∷ n / 256 ∷ n % 256 ∷ e ∷ rest) field each (octets-spelled _ (sum-fits (a ∷ b ∷ n / 256 ∷ n % 256 ∷ e ∷ rest)));
        least = omega arith;
        most = omega arith;
        version = version;
        spare = spare;
        named = omega arith;
      };
      header_bits = cc;
      rest = refl;
    }
frame_with_field-frame _ w most = let l = w.least in absurd (omega arith)
