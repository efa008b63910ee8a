use Rattle.std.proofs.Common.{◌≤◌, ◌+◌, length}
use Rattle.tc_cli.specs.Parallel.{AreParted}
use Rattle.tc_cli.proofs.parallel.part_lines.Given as goal

-- Each line so far was good, and its job was appended to the list of its channel. A line has at least one octet, which
-- may be its line feed.
abbrev pub invariant-loop-octets : goal.invariant-loop-octets
invariant-loop-octets l = record {
  counted : l.line + length l.rest ≤ length l.fn.script;
  parted : AreParted l.fn.scid l.fn.script l.line l.plan l.rest;
}

abbrev pub decreases-loop-octets : goal.decreases-loop-octets
decreases-loop-octets l = length l.rest
