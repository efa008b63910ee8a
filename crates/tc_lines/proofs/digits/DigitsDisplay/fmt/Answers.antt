use Rattle.std.proofs.Common.{ℕ, List, [], ◌++◌, sym, ap, ◌∙◌, rules, append_assoc, append-nil}
use Rattle.std.proofs.Output.{has_written_append, has_written_of_eq}
use Rattle.std.proofs.lemmas.List.{nil_from_length}
use Rattle.std.specs.Slice.Iter.{chunks_rest}
use Rattle.tc_lines.specs.Printed.{octets_text}
use Rattle.tc_lines.proofs.Encoded.{encode_with-nil, encode_with-append}
use Rattle.tc_lines.proofs.digits.DigitsDisplay.fmt.Goals as goal

pub loop-some-init : goal.loop-some-init
loop-some-init g c = (search rules, tt, search rules, λ plain. ([], search rules, search rules))

pub loop-some-preserved : goal.loop-some-preserved
loop-some-preserved g c =
    let chunk = c.in-Some.some.now in
    let steps = c.in-Some.ensures.steps in (
      search rules,
      tt,
      steps.0 ∙ c.loop-some.invariant.2,
      λ plain.
          let so_far = c.loop-some.invariant.3 plain in (
            so_far.0 ++ octets_text chunk,
            has_written_append _ _ _ _ _ _ so_far.1 (search rules),
            append_assoc so_far.0 _ _
                ∙ ap (λ (t : List ℕ). so_far.0 ++ t)
                (sym (encode_with-append _ chunk (chunks_rest c.next.new.self)) ∙ ap octets_text (sym steps.1.0))
                ∙ so_far.2,
          ),
    )

pub returns-clause-writes : goal.returns-clause-writes
returns-clause-writes g c = λ plain _.
    let so_far = c.loop-some.invariant.3 plain in
    let none = nil_from_length _ c.in-None.ensures.steps.1.0 in
    has_written_of_eq _ _ _ _ _ (rw (none, encode_with-nil, append-nil) at so_far.2) so_far.1
