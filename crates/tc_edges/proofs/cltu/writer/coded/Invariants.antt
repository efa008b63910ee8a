use Rattle.std.proofs.Common.{◌≡◌, ◌+◌, ◌*◌, ◌/◌, ◌≤◌, ◌++◌, length, vec_len, vec_capacity}
use Rattle.tc_edges.specs.Cltu.Cltu.{start_sequence, code_blocks, filled}
use Rattle.tc_edges.proofs.cltu.writer.coded.Given as goal

abbrev pub invariant-loop-rest : goal.invariant-loop-rest
invariant-loop-rest l = record {
  items : l.made.items ++ code_blocks (filled l.rest) ≡ start_sequence ++ code_blocks (filled l.frame);
  room : vec_len l.made + 8 * ((length l.rest + 6) / 7) + 8 ≤ vec_capacity l.made;
}

abbrev pub decreases-loop-rest : goal.decreases-loop-rest
decreases-loop-rest l = length l.rest
