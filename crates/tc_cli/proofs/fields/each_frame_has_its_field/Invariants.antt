use Rattle.std.proofs.Common.{length}
use Rattle.tc_cli.proofs.fields.each_frame_has_its_field.Given as goal

abbrev pub decreases-loop-line : goal.decreases-loop-line
decreases-loop-line l = length l.rest
