use Rattle.std.proofs.Common.{◌≡◌, ◌+◌, ◌≤◌, ◌++◌, replicate, vec_len, vec_capacity}
use Rattle.tc_edges.specs.Tm.TmFrame.{primary_header}
use Rattle.tc_edges.proofs.tm.frame.idle_frame.Given as goal

abbrev pub invariant-loop-idle : goal.invariant-loop-idle
invariant-loop-idle l = record {
  items : l.frame.items ≡ primary_header l.header ++ replicate l.idle 85;
  len : vec_len l.frame ≡ 6 + l.idle;
  room : l.room ≤ vec_capacity l.frame;
}
