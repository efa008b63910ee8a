-- The front of octets, by a search for its line feed.
use Rattle.std.proofs.Common.{◌≡◌, ◌≢◌, ◌+◌, ◌++◌, ◌∷◌, ℕ, Some, None, true, false, List, [], length, length-take-le, take, get_or, get_or-take, refl, sym, ap, ◌∙◌, arith}
use Rattle.std.proofs.lemmas.Bool.{eqb-true, eq-eqb}
use Rattle.std.proofs.lemmas.List.{append-nil, take_more}
use Rattle.std.proofs.lemmas.List.Elements.{All-from_get_or}
use Rattle.memchr.specs.Find.{IsFirstByte, is_byte}
use Rattle.tc_lines.specs.Reading.{IsFront}

-- if a line feed is found, the front ends with it
pub front-to-feed : (octets : List ℕ) (end : ℕ) → IsFirstByte (is_byte 10) octets (Some end) → IsFront octets (record { line = end; all = end + 1; ended = true })
front-to-feed octets end found =
    let first = found.0 in
    let feed : get_or octets end 0 ≡ 10 = eqb-true _ _ found.1 in
    let size = length-take-le end octets (omega (arith, first.high)) in
    record {
      one = All-from_get_or (λ octet. octet ≢ 10) (take end octets) 0
          (λ k lt is-feed. first.before k (omega arith) (omega (arith, lt, size)) (eq-eqb _ _ (sym (get_or-take end octets k 0 (omega (arith, lt, size))) ∙ is-feed)));
      all_is = take_more octets end 0 first.high ∙ ap (λ x. take end octets ++ x ∷ []) feed;
      line_within = omega (arith, first.high);
      all_within = omega (arith, first.high);
      whole = λ e. absurd (cc);
    }

-- if no line feed is found, the front is all octets
pub front-whole : (octets : List ℕ) → IsFirstByte (is_byte 10) octets None → IsFront octets (record { line = length octets; all = length octets; ended = false })
front-whole octets none =
    let size = length-take-le (length octets) octets (omega arith) in
    record {
      one = All-from_get_or (λ octet. octet ≢ 10) (take (length octets) octets) 0
          (λ k lt is-feed. none k (omega arith) (omega (arith, lt, size)) (eq-eqb _ _ (sym (get_or-take (length octets) octets k 0 (omega (arith, lt, size))) ∙ is-feed)));
      all_is = sym (append-nil (take (length octets) octets));
      line_within = omega arith;
      all_within = omega arith;
      whole = λ _. refl;
    }
