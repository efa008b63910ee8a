use Rattle.std.proofs.Common.{◌≡◌, ◌<◌, [], length, drop, sym, ◌∙◌, ap, arith}
use Rattle.std.specs.List.{take_while}
use Rattle.std.proofs.lemmas.Bool.Decides.{nat_tests}
use Rattle.tc_lines.specs.Word.{is_separator, words}
use Rattle.tc_lines.proofs.Words.{words-gap, words-none, words-split}
use Rattle.tc_lines.proofs.word.next_word.Goals as goal

pub returns-then-is_empty-clause-cases : goal.returns-then-is_empty-clause-cases
returns-then-is_empty-clause-cases c =
    let none : words c.split_at.result.1.now ≡ [] = words-none _ (grind (arith, nat_tests)) in
    let gap : c.split_at.result.1.now ≡ drop (length (take_while is_separator c.args.octets.now)) c.args.octets.now = cc in
    sym (words-gap c.args.octets.now) ∙ sym (ap words gap) ∙ none

pub returns-clause-cases : goal.returns-clause-cases
returns-clause-cases c =
    let left : 0 < length c.split_at.result.1.now = grind (arith, nat_tests) in
    (words-split _ _ _ _ _ _ c.gap_length.ensures c.split_at.ensures.back left c.word_length.ensures c.split_at-2.ensures.front c.split_at-2.ensures.back).1

pub returns-clause-filled : goal.returns-clause-filled
returns-clause-filled c =
    let left : 0 < length c.split_at.result.1.now = grind (arith, nat_tests) in
    let some = words-split _ _ _ _ _ _ c.gap_length.ensures c.split_at.ensures.back left c.word_length.ensures c.split_at-2.ensures.front c.split_at-2.ensures.back in
    omega (arith, some.0, c.split_at-2.ensures.front_len)
