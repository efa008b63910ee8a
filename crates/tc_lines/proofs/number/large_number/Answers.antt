use Rattle.std.proofs.Common.{rules}
use Rattle.tc_lines.proofs.number.large_number.Goals as goal

pub returns-in-Ok : goal.returns-in-Ok
returns-in-Ok c = search rules steps 1000000
