use Rattle.tc_make.proofs.Names.{Appends, List, length, unit_packets_text, ℕ, ◌++◌, ◌≡◌}
use Rattle.tc_make.proofs.explained.write_unit.Given as goal

-- the text that was written so far, followed by the text of the octets that are left, is the text of the whole unit
abbrev pub invariant-loop-packet : goal.invariant-loop-packet
invariant-loop-packet g l =
    (done : List ℕ) × Appends (g.W.Write.contents l.initial.writer) (g.W.Write.contents l.writer) done × (done ++ unit_packets_text l.rest ≡ unit_packets_text l.fn.unit)

abbrev pub decreases-loop-packet : goal.decreases-loop-packet
decreases-loop-packet g l = length l.rest
