-- The first line is found by a search for its line feed.
use Rattle.std.proofs.Common.{◌≡◌, ◌≢◌, ◌<◌, ℕ, Some, None, List, [], ◌∷◌, ◌++◌, suc, ◌+◌, length, length-drop, length-take-le, take, drop, get_or, get_or-take, drop-cons, take-append-drop, All, inl, inr, refl, sym, ap, ◌∙◌, subst, arith}
use Rattle.std.proofs.lemmas.Bool.{eqb-true, eq-eqb}
use Rattle.std.proofs.lemmas.List.Elements.{All-from_get_or}
use Rattle.memchr.specs.Find.{IsFirstByte, is_byte}
use Rattle.tc_text.specs.Reading.{IsFirstLine}

-- if a line feed was found, the octets before it are the first line
pub line-to-feed : (octets line rest after : List ℕ) (end : ℕ) → IsFirstByte (is_byte 10) octets (Some end) → line ≡ take end octets → rest ≡ drop end octets
    → after ≡ drop 1 rest → IsFirstLine octets line after
line-to-feed octets line rest after end found is left follows =
    let first = found.0 in
    let feed : get_or octets end 0 ≡ 10 = eqb-true _ _ found.1 in
    let size = length-take-le end octets (omega (arith, first.high)) in
    let none : All (λ octet. octet ≢ 10) (take end octets) = All-from_get_or (λ octet. octet ≢ 10) (take end octets) 0
    (λ k lt is-feed. first.before k (omega arith) (omega (arith, lt, size)) (eq-eqb _ _ (sym (get_or-take end octets k 0 (omega (arith, lt, size))) ∙ is-feed))) in
    let last : after ≡ drop (suc end) octets = follows ∙ ap (drop 1) (left ∙ drop-cons octets end 0 first.high) in
    let whole : octets ≡ line ++ 10 ∷ after =
    sym (take-append-drop end octets) ∙ ap (λ l. take end octets ++ l) (drop-cons octets end 0 first.high) ∙ ap (λ x. take end octets ++ x ∷ drop (suc end) octets) feed
    ∙ ap (λ l. take end octets ++ 10 ∷ l) (sym last) ∙ ap (λ l. l ++ 10 ∷ after) (sym is) in
    record {
      one = subst (All (λ octet. octet ≢ 10)) (sym is) none;
      parts = inl whole;
      shorter = omega (arith, ap length last, length-drop (suc end) octets, first.high);
    }

-- if there is no line feed, all octets are the first line
pub last-line : (octets after : List ℕ) → IsFirstByte (is_byte 10) octets None → 0 < length octets → after ≡ [] → IsFirstLine octets octets after
last-line octets after none some no-more = record {
  one = All-from_get_or (λ octet. octet ≢ 10) octets 0 (λ k lt is-feed. none k (omega arith) lt (eq-eqb _ _ is-feed));
  parts = inr (refl, no-more);
  shorter = omega (arith, ap length no-more, some);
}
