use Rattle.tc_c.proofs.Names.{◌≡◌, ◌+◌, ◌*◌, ◌/◌, ◌++◌, length, take, start_sequence, code_blocks, filled}
use Rattle.tc_c.proofs.cltus.write_over.Given as goal

abbrev pub invariant-loop-rest : goal.invariant-loop-rest
invariant-loop-rest l = record {
  front : take l.at l.made ++ code_blocks (filled l.rest) ≡ start_sequence ++ code_blocks (filled l.frame);
  all : length l.made ≡ l.at + 8 * ((length l.rest + 6) / 7) + 8;
}

abbrev pub decreases-loop-rest : goal.decreases-loop-rest
decreases-loop-rest l = length l.rest
