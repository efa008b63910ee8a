-- Lines and their answers, one after the other.
use Rattle.std.proofs.Common.{◌≡◌, ◌≢◌, ◌<◌, ◌≤◌, ◌+◌, ◌⊎◌, ℕ, Bool, true, false, cond, List, [], ◌∷◌, ◌++◌, Option, None, Some, IfSome, length, take, take_all, nat_lt, refl, sym, ap, subst, ◌∙◌, inl, inr, arith, append-nil, append_assoc, ne_eqb}
use Rattle.std.proofs.lemmas.Bool.{ltb-true, ltb-false, both_ways}
use Rattle.std.proofs.lemmas.List.Elements.{All-head, All-tail}
use Rattle.std.proofs.KnownBytes.{Appends-nil, Appends-trans}
use Rattle.std.specs.Prelude.{OnSome}
use Rattle.std.specs.Io.KnownBytes.{Appends, Consumes, IsAtEnd}
use Rattle.tc_lines.specs.Answering.{AreAllWritten, AreAnswered, AreFirstWritten, IsAnswered, IsReadAnswered, Writes, lines_after, lines_of, too_long_text}
use Rattle.tc_lines.specs.Reading.{IsLineRead, IsOneLine, feed_of}
use Rattle.tc_lines.specs.declared.reading.LineRead.{LineRead}

-- the first line ends with the first line feed
lines-ended : (line after : List ℕ) → IsOneLine line → lines_of (line ++ 10 ∷ after) ≡ line ∷ lines_of after
lines-ended [] after one = refl
lines-ended (x ∷ xs) after one =
    ap (λ b. cond b ([] ∷ lines_of (xs ++ 10 ∷ after)) (lines_after x (lines_of (xs ++ 10 ∷ after)))) (ne_eqb x 10 (All-head (λ octet. octet ≢ 10) x xs one))
    ∙ ap (lines_after x) (lines-ended xs after (All-tail (λ octet. octet ≢ 10) x xs one))

-- octets without a line feed are one line, unless there are no octets
lines-last : (line : List ℕ) → IsOneLine line → line ≢ [] → lines_of line ≡ line ∷ []
lines-last [] one some = absurd (some refl)
lines-last (x ∷ []) one some =
    ap (λ b. cond b ([] ∷ []) ((x ∷ []) ∷ [])) (ne_eqb x 10 (All-head (λ octet. octet ≢ 10) x [] one))
lines-last (x ∷ (y ∷ ys)) one some =
    ap (λ b. cond b ([] ∷ lines_of (y ∷ ys)) (lines_after x (lines_of (y ∷ ys)))) (ne_eqb x 10 (All-head (λ octet. octet ≢ 10) x (y ∷ ys) one))
    ∙ ap (lines_after x) (lines-last (y ∷ ys) (All-tail (λ octet. octet ≢ 10) x (y ∷ ys) one) (λ no. cc))

module _ {S : Type 0} (limit : ℕ) (Answers : S → List ℕ → S → List ℕ → Type 0) where
  -- once one more line is answered, all lines up to this one are answered
  answered-more : (old now new : S) (lines : List (List ℕ)) (line text more : List ℕ) → AreAnswered limit Answers old lines now text
      → IsAnswered limit Answers now line new more → AreAnswered limit Answers old (lines ++ line ∷ []) new (text ++ more)
  answered-more old now new [] line text more before next = (
    new,
    more,
    [],
    subst (λ s. IsAnswered limit Answers s line new more) before.0 next,
    (refl, refl),
    ap (λ l. l ++ more) before.1 ∙ sym (append-nil more),
  )
  answered-more old now new (first ∷ lines) line text more (between, front, rest, is, after, joined) next = (
    between,
    front,
    rest ++ more,
    is,
    answered-more between now new lines line rest more after next,
    ap (λ l. l ++ more) joined ∙ append_assoc front rest more,
  )

  -- the first lines of known octets were answered, their answers were written, and the octets of the other lines are left
  abbrev pub IsSoFar : S → Option (List ℕ) → S → Option (List ℕ) → Option (List ℕ) → Option (List ℕ) → Type 0
  IsSoFar old known now left before after = IfSome known (λ octets. (lines : List (List ℕ)) × (rest : List ℕ) × (left ≡ Some rest)
      × (lines_of octets ≡ lines ++ lines_of rest) × Writes before after (AreAnswered limit Answers old lines now))

  pub none-answered : (old : S) (known before : Option (List ℕ)) → IsSoFar old known old known before before
  none-answered old None before = tt
  none-answered old (Some octets) before = ([], octets, refl, refl, ([], (refl, refl), Appends-nil before))

  -- if a line was read, the text is its answer, and otherwise the text is empty and nothing changed
  line-answered : (now new : S) (read : LineRead) (line kept text : List ℕ) → kept ≡ take limit line → read.too_long ≡ nat_lt limit (length line)
      → IsReadAnswered Answers now read kept new text
      → (((read.ended ≡ true) ⊎ (line ≢ [])) × IsAnswered limit Answers now line new text)
      ⊎ ((read.ended ≡ false) × (line ≡ []) × (new ≡ now) × (text ≡ []))
  line-answered now new read line kept text is long (inl (over, same, reported)) =
      let lt = ltb-true limit (length line) (sym long ∙ over) in
      inl (inr (λ none. omega (arith, lt, ap length none)), inl (lt, same, reported))
  line-answered now new read line kept text is long (inr (inl (fits, some, answered))) =
      let le = ltb-false limit (length line) (sym long ∙ fits) in
      let whole = is ∙ take_all limit line le in
      inl (at whole some, inr (le, subst (λ l. Answers now l new text) whole answered))
    where
      at : kept ≡ line → (read.ended ≡ true) ⊎ (kept ≢ []) → (read.ended ≡ true) ⊎ (line ≢ [])
      at whole (inl ended) = inl ended
      at whole (inr some) = inr (λ none. some (whole ∙ none))
  line-answered now new read line kept text is long (inr (inr (fits, ended, none, same, reported))) =
      let le = ltb-false limit (length line) (sym long ∙ fits) in
      inr (ended, sym (is ∙ take_all limit line le) ∙ none, same, reported)

  pub line-more : (old now new : S) (known left after_it : Option (List ℕ)) (kept shown : List ℕ) (read : LineRead) (a b c : Option (List ℕ))
      → IsSoFar old known now left a b → IsLineRead limit left after_it kept read → read.ended ≡ true
      → shown ≡ kept → Writes b c (IsReadAnswered Answers now read shown new) → IsSoFar old known new after_it a c
  line-more old now new None left after_it kept shown read a b c so_far next ended same_kept more = tt
  line-more old now new (Some octets) left after_it kept shown read a b c (lines, rest, left_is, parts, (text, answered, written)) next ended same_kept (more, read_answered, appended) =
      at (line-answered now new read next.line shown more (same_kept ∙ next.kept_is) next.too_long_is read_answered)
      (lost after_it (subst (λ l. Consumes l after_it (next.line ++ feed_of read.ended)) left_is next.lost))
    where
      lost : (o : Option (List ℕ)) → Consumes (Some rest) o (next.line ++ feed_of read.ended) → (y : List ℕ) × (o ≡ Some y) × (rest ≡ next.line ++ 10 ∷ y)
      lost None lose = absurd lose
      lost (Some y) is = (y, refl, is ∙ ap (λ e. (next.line ++ feed_of e) ++ y) ended ∙ append_assoc next.line (10 ∷ []) y)

      at : (((read.ended ≡ true) ⊎ (next.line ≢ [])) × IsAnswered limit Answers now next.line new more)
          ⊎ ((read.ended ≡ false) × (next.line ≡ []) × (new ≡ now) × (more ≡ []))
          → ((y : List ℕ) × (after_it ≡ Some y) × (rest ≡ next.line ++ 10 ∷ y)) → IsSoFar old (Some octets) new after_it a c
      at (inl (some, is)) (y, after_is, rest_is) = (
        lines ++ next.line ∷ [],
        y,
        after_is,
        parts ∙ ap (λ l. lines ++ lines_of l) rest_is ∙ ap (λ l. lines ++ l) (lines-ended next.line y next.one)
            ∙ sym (append_assoc lines (next.line ∷ []) (lines_of y)),
        (text ++ more, answered-more old now new lines next.line text more answered is, Appends-trans a b c text more written appended),
      )
      at (inr (not, none, same, reported)) found = absurd (both_ways read.ended not ended)

  -- once the last line is answered, the answers of all lines are written
  pub lines-end : (old now new : S) (known left after_it : Option (List ℕ)) (kept shown : List ℕ) (read : LineRead) (a b c : Option (List ℕ))
      → IsSoFar old known now left a b → IsLineRead limit left after_it kept read → read.ended ≡ false
      → shown ≡ kept → Writes b c (IsReadAnswered Answers now read shown new) → IfSome known (λ octets. AreAllWritten limit Answers old octets new a c)
  lines-end old now new None left after_it kept shown read a b c so_far next ended same_kept more = tt
  lines-end old now new (Some octets) left after_it kept shown read a b c (lines, rest, left_is, parts, (text, answered, written)) next ended same_kept (more, read_answered, appended) =
      at (line-answered now new read next.line shown more (same_kept ∙ next.kept_is) next.too_long_is read_answered)
      (last left left_is after_it next.lost (next.end ended))
    where
      last : (o : Option (List ℕ)) → o ≡ Some rest → (p : Option (List ℕ)) → Consumes o p (next.line ++ feed_of read.ended) → OnSome o (IsAtEnd p) → rest ≡ next.line
      last None none p lost end = let both : ⊥ = cc in absurd both
      last (Some z) is None lost end = absurd lost
      last (Some z) is (Some y) lost end =
          let same : z ≡ rest = cc in
          sym same ∙ lost ∙ ap (λ l. (next.line ++ feed_of read.ended) ++ l) end ∙ append-nil (next.line ++ feed_of read.ended)
          ∙ ap (λ e. next.line ++ feed_of e) ended ∙ append-nil next.line

      nonempty : (read.ended ≡ true) ⊎ (next.line ≢ []) → next.line ≢ []
      nonempty (inl is) = absurd (both_ways read.ended ended is)
      nonempty (inr some) = some

      at : (((read.ended ≡ true) ⊎ (next.line ≢ [])) × IsAnswered limit Answers now next.line new more)
          ⊎ ((read.ended ≡ false) × (next.line ≡ []) × (new ≡ now) × (more ≡ []))
          → rest ≡ next.line → AreAllWritten limit Answers old octets new a c
      at (inl (some, is)) rest_is = (
        text ++ more,
        subst (λ ls. AreAnswered limit Answers old ls new (text ++ more))
            (sym (parts ∙ ap (λ l. lines ++ lines_of l) rest_is ∙ ap (λ l. lines ++ l) (lines-last next.line next.one (nonempty some))))
            (answered-more old now new lines next.line text more answered is),
        Appends-trans a b c text more written appended,
      )
      at (inr (not, none, same, reported)) rest_is = (
        text ++ more,
        subst (λ ls. AreAnswered limit Answers old ls new (text ++ more))
            (sym (parts ∙ ap (λ l. lines ++ lines_of l) (rest_is ∙ none) ∙ append-nil lines))
            (subst (λ s. AreAnswered limit Answers old lines s (text ++ more)) (sym same)
            (subst (AreAnswered limit Answers old lines now) (sym (append-nil text) ∙ ap (λ l. text ++ l) (sym reported)) answered)),
        Appends-trans a b c text more written appended,
      )

  -- if no more lines can be read, the answers of some first lines are written
  pub lines-cut : (old now : S) (known left a b : Option (List ℕ)) → IsSoFar old known now left a b
      → IfSome known (λ octets. AreFirstWritten limit Answers old octets now a b)
  lines-cut old now None left a b so_far = tt
  lines-cut old now (Some octets) left a b (lines, rest, left_is, parts, writes) = (lines, lines_of rest, parts, writes)
