use Rattle.tc_live.proofs.Names.{◌≡◌, drop, first_misfit}
use Rattle.tc_lines.specs.Word.{words}
use Rattle.tc_live.proofs.hint.misfit.Given as goal

-- the first of the remaining numbers whose word can't be parsed is the first of all numbers whose word can't be parsed
abbrev pub invariant-loop-number : goal.invariant-loop-number
invariant-loop-number l = first_misfit (drop l.number-index l.numbers) (words l.rest) ≡ first_misfit l.numbers (words l.arguments)
