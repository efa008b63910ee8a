use Rattle.std.proofs.Common.{rules}
use Rattle.tc_link.proofs.command.read_command.Goals as goal

pub returns-in-0 : goal.returns-in-0
returns-in-0 c = search rules steps 1000000
