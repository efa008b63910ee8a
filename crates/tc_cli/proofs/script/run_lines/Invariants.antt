use Rattle.std.proofs.Common.{◌≤◌, ◌+◌, length}
use Rattle.tc_cli.proofs.Written.{IsSoFar}
use Rattle.tc_cli.proofs.script.run_lines.Given as goal

-- Each line so far was good, and its answer was written. A line has at least one octet, which may be its line feed.
abbrev pub invariant-loop-octets : goal.invariant-loop-octets
invariant-loop-octets g l = record {
  counted : l.line + length l.rest ≤ length l.fn.script;
  so_far : IsSoFar l.fn.scid l.fn.script l.line l.session l.rest (g.W.Write.contents l.fn.writer) (g.W.Write.contents l.writer);
}

abbrev pub decreases-loop-octets : goal.decreases-loop-octets
decreases-loop-octets g l = length l.rest
