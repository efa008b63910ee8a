use Rattle.std.proofs.Common.{◌≡◌, ◌≤◌, vec_len, vec_capacity}
use Rattle.tc_bench.proofs.sender.write_each.Given as goal

abbrev pub invariant-loop-octet : goal.invariant-loop-octet
invariant-loop-octet g l = (vec_len l.frames ≡ l.octet) × (256 ≤ vec_capacity l.frames)
