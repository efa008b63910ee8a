use Rattle.std.proofs.Common.{◌≡◌, ◌+◌, ◌≤◌, ◌^◌, take}
use Rattle.tc_lines.specs.Number.{spelled_number}
use Rattle.tc_lines.proofs.number.decimal.Given as goal

abbrev pub invariant-loop-digit : goal.invariant-loop-digit
invariant-loop-digit l = (l.number ≡ spelled_number (take l.digit-index l.word)) × (l.number + 1 ≤ 10 ^ l.digit-index)
