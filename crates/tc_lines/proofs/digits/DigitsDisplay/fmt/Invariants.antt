use Rattle.std.proofs.Common.{◌≡◌, ℕ, List, ◌++◌}
use Rattle.std.specs.Fmt.{HasWritten, IsPlainFormatter}
use Rattle.std.specs.Slice.Iter.{chunks_rest, chunks_size}
use Rattle.tc_lines.specs.Printed.{octets_text}
use Rattle.tc_lines.proofs.digits.DigitsDisplay.fmt.Given as goal

abbrev pub invariant-loop-some : goal.invariant-loop-some
invariant-loop-some g l =
    (goal.iterator-loop-some g).can_next l.some-iterator
    × (goal.iterator-loop-some g).is_finite l.some-iterator
    × (chunks_size l.some-iterator ≡ 64)
    × (IsPlainFormatter l.initial.f → (done : List ℕ) × HasWritten g.W.Write.write_str_gives l.initial.f done l.f
    × (done ++ octets_text (chunks_rest l.some-iterator) ≡ octets_text l.fn.self.0.now))
