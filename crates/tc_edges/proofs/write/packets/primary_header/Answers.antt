use Rattle.std.proofs.Common.{rules}
use Rattle.tc_edges.proofs.write.packets.primary_header.Goals as goal

pub returns-clause-header : goal.returns-clause-header
returns-clause-header c = search rules steps 1000000
