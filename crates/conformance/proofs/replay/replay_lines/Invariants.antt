use Rattle.std.proofs.Common.{length}
use Rattle.conformance.proofs.replay.replay_lines.Given as goal

abbrev pub decreases-loop-octets : goal.decreases-loop-octets
decreases-loop-octets g l = length l.rest
