use Rattle.std.proofs.Common.{◌≡◌, ◌∷◌, refl, ◌∙◌, ap}
use Rattle.std.proofs.lemmas.Result.{err_from_is_err_and}
use Rattle.tc_lines.specs.Word.{words}
use Rattle.tc_text.specs.Line.{three_of}
use Rattle.tc_text.proofs.Lines.{three-more}
use Rattle.tc_text.proofs.word.three_arguments.Goals as goal

pub returns-in_err-no_more : goal.returns-in_err-no_more
returns-in_err-no_more c =
    let more = three-more c.in_ok-first.first.now c.in_ok-second.second.now c.in_ok-third.third.now (words c.in_ok-third.rest.now) (c.in_err-no_more.ensures.some.1) in
    let all : words c.args.octets.now ≡ c.in_ok-first.first.now ∷ c.in_ok-second.second.now ∷ c.in_ok-third.third.now ∷ words c.in_ok-third.rest.now = rw (c.in_ok-first.ensures, c.in_ok-second.ensures, c.in_ok-third.ensures) refl in
    let e = ap three_of all ∙ more in
    let p = err_from_is_err_and c.from_residual-in_err-no_more.result c.from_residual-in_err-no_more.ensures.1 in
    rw (p.1, p.2) (rw c.in_err-no_more.ensures.some.0 e)
