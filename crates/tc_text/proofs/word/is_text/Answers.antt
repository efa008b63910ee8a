use Rattle.std.proofs.Common.{◌≡◌, ◌≤◌, length, arith}
use Rattle.std.proofs.lemmas.Bool.Decides.{nat_tests}
use Rattle.tc_text.proofs.Texts.{is-text}
use Rattle.tc_text.proofs.word.is_text.Goals as goal

pub returns : goal.returns
returns c =
    let size : length c.args.word.now ≡ length c.args.text.now = grind (arith, nat_tests) in
    let end : length c.args.text.now ≤ c.loop-place.place = grind (arith, nat_tests) in
    is-text _ _ size (λ place lt. c.loop-place.invariant place (omega (arith, lt, end)))
