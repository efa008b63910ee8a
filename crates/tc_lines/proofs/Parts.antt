-- A line that is read part by part.
use Rattle.std.proofs.Common.{◌≡◌, ◌≢◌, ◌<◌, ◌≤◌, ◌+◌, ◌⊎◌, ℕ, Bool, true, false, List, [], ◌++◌, Option, None, Some, Result, Ok, Err, length, length-append, length-take-le, take, take_all, nat_lt, refl, sym, ap, subst, ◌∙◌, inl, inr, arith, append-nil, append_assoc}
use Rattle.std.proofs.lemmas.Bool.{cases_lt, lt-ltb, le-ltb, or_left}
use Rattle.std.proofs.lemmas.Grind.{common_steps}
use Rattle.std.proofs.lemmas.List.{take-append-le}
use Rattle.std.proofs.lemmas.List.Elements.{All-append}
use Rattle.std.proofs.KnownBytes.{Consumes-nil, Consumes-trans, Consumes-kept}
use Rattle.std.specs.Prelude.{◌||◌, IfOk, OnSome}
use Rattle.std.specs.Io.KnownBytes.{Consumes, IsAtEnd, Keeps}
use Rattle.tc_lines.specs.Reading.{IsOneLine, IsPartRead, IsLineRead, feed_of, nothing_yet}
use Rattle.tc_lines.specs.declared.reading.Part.{Part}

nothing-one : IsOneLine []
nothing-one k d lt = absurd (omega (arith, lt))

-- if nothing was taken from the reader, the part of the line that was read is empty
none-read : (limit : ℕ) (a b : Option (List ℕ)) (before : List ℕ) → length before ≤ limit → Keeps a b → IsPartRead limit a b before before nothing_yet
none-read limit a b before within kept = record {
  octets = [];
  one = nothing-one;
  lost = Consumes-kept a a b [] (Consumes-nil a) kept;
  more = λ _. refl;
  end = λ no. cc;
  after_is = grind (arith, common_steps);
  over_is = grind (arith, common_steps);
}

pub read-again : {E : Type 0} (r : Result Part E) (limit : ℕ) (a b : Option (List ℕ)) (before : List ℕ) → IfOk r (λ part. part ≡ nothing_yet)
    → length before ≤ limit → Keeps a b → IfOk r (IsPartRead limit a b before before)
read-again (Err e) limit a b before none within kept = tt
read-again (Ok part) limit a b before none within kept = subst (IsPartRead limit a b before before) (sym none) (none-read limit a b before within kept)

-- The octets of a line so far were taken from the reader, and the first `limit` of them are kept. `over` is true if there were more.
pub record IsLineSoFar (limit : ℕ) (old new : Option (List ℕ)) (kept : List ℕ) (over : Bool) : Type 0 where
  pub line : List ℕ
  pub one : IsOneLine line
  pub lost : Consumes old new line
  pub kept_is : kept ≡ take limit line
  pub over_is : over ≡ nat_lt limit (length line)

kept-more : (limit : ℕ) (line kept octets : List ℕ) → kept ≡ take limit line → take limit (kept ++ octets) ≡ take limit (line ++ octets)
kept-more limit line kept octets is = ap (λ l. take limit (l ++ octets)) is ∙ at (cases_lt limit (length line))
  where
    at : (limit < length line) ⊎ (length line ≤ limit) → take limit (take limit line ++ octets) ≡ take limit (line ++ octets)
    at (inl lt) =
        let long = length-take-le limit line (omega (arith, lt)) in
        take-append-le limit (take limit line) octets (omega (arith, long)) ∙ take_all limit (take limit line) (omega (arith, long))
        ∙ sym (take-append-le limit line octets (omega (arith, lt)))
    at (inr le) = ap (λ l. take limit (l ++ octets)) (take_all limit line le)

over-more : (limit : ℕ) (line kept octets : List ℕ) → kept ≡ take limit line
    → (nat_lt limit (length line) || nat_lt limit (length kept + length octets)) ≡ nat_lt limit (length (line ++ octets))
over-more limit line kept octets is = at (cases_lt limit (length line))
  where
    at : (limit < length line) ⊎ (length line ≤ limit)
        → (nat_lt limit (length line) || nat_lt limit (length kept + length octets)) ≡ nat_lt limit (length (line ++ octets))
    at (inl lt) =
        or_left _ _ (lt-ltb limit (length line) lt) ∙ sym (lt-ltb limit (length (line ++ octets)) (omega (arith, length-append line octets, lt)))
    at (inr le) =
        ap (λ b. b || nat_lt limit (length kept + length octets)) (le-ltb limit (length line) le)
        ∙ ap (λ l. nat_lt limit (length l + length octets)) (is ∙ take_all limit line le) ∙ ap (nat_lt limit) (sym (length-append line octets))

-- one more part that goes on extends the line so far
pub part-more : (limit : ℕ) (a b c : Option (List ℕ)) (before after : List ℕ) (over : Bool) (part : Part) → IsLineSoFar limit a b before over
    → IsPartRead limit b c before after part → part.goes_on ≡ true → IsLineSoFar limit a c after (over || part.over)
part-more limit a b c before after over part so_far more goes_on = record {
  line = so_far.line ++ more.octets;
  one = All-append (λ octet. octet ≢ 10) so_far.line more.octets so_far.one more.one;
  lost = Consumes-trans a b c so_far.line more.octets so_far.lost
      (subst (Consumes b c) (ap (λ e. more.octets ++ feed_of e) (more.more goes_on) ∙ append-nil more.octets) more.lost);
  kept_is = more.after_is ∙ kept-more limit so_far.line before more.octets so_far.kept_is;
  over_is = ap (λ x. x || part.over) so_far.over_is ∙ ap (λ x. nat_lt limit (length so_far.line) || x) more.over_is
      ∙ over-more limit so_far.line before more.octets so_far.kept_is;
}

end-of : (a b c : Option (List ℕ)) (line : List ℕ) → Consumes a b line → OnSome b (IsAtEnd c) → OnSome a (IsAtEnd c)
end-of None b c line lost end = tt
end-of (Some x) None c line lost end = absurd lost
end-of (Some x) (Some y) c line lost end = end

-- with its last part, the whole line has been read
pub last-part : (limit : ℕ) (a b c : Option (List ℕ)) (before after : List ℕ) (over : Bool) (part : Part) → IsLineSoFar limit a b before over
    → IsPartRead limit b c before after part → part.goes_on ≡ false
    → IsLineRead limit a c after (record { ended = part.ended; too_long = over || part.over })
last-part limit a b c before after over part so_far more goes_on = record {
  line = so_far.line ++ more.octets;
  one = All-append (λ octet. octet ≢ 10) so_far.line more.octets so_far.one more.one;
  lost = subst (Consumes a c) (sym (append_assoc so_far.line more.octets (feed_of part.ended))) (Consumes-trans a b c so_far.line _ so_far.lost more.lost);
  end = λ ended. end-of a b c so_far.line so_far.lost (more.end goes_on ended);
  kept_is = more.after_is ∙ kept-more limit so_far.line before more.octets so_far.kept_is;
  too_long_is = ap (λ x. x || part.over) so_far.over_is ∙ ap (λ x. nat_lt limit (length so_far.line) || x) more.over_is
      ∙ over-more limit so_far.line before more.octets so_far.kept_is;
}
