use Rattle.std.proofs.Common.{◌≡◌, ◌<◌, length, take, ap, ◌∙◌, arith}
use Rattle.std.proofs.lemmas.Grind.{common_steps}
use Rattle.std.proofs.lemmas.Bool.Decides.{nat_tests}
use Rattle.tc_lines.specs.Number.{spelled_number}
use Rattle.tc_lines.proofs.Numbers.{decimal_of-spelled}
use Rattle.tc_lines.proofs.number.decimal.Goals as goal

pub returns : goal.returns
returns c =
    let whole : take c.loop-digit.digit-index c.args.word.now ≡ c.args.word.now = grind (arith, common_steps) in
    let number : c.loop-digit.number ≡ spelled_number c.args.word.now = c.loop-digit.invariant.0 ∙ ap spelled_number whole in
    let filled : 0 < length c.args.word.now = grind (arith, nat_tests) in
    decimal_of-spelled _ _ filled c.if-word-gt-MAX_DIGITS.false (c.if-not-are_digits.ensures) number

pub loop-digit-preserved : goal.loop-digit-preserved
loop-digit-preserved c = grind (arith, common_steps) steps 1000000
