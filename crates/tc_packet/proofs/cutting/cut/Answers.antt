use Rattle.std.proofs.Common.{rules}
use Rattle.tc_packet.proofs.cutting.cut.Goals as goal

pub returns-clause-cut : goal.returns-clause-cut
returns-clause-cut c = search rules steps 1000000

pub returns-clause-fields : goal.returns-clause-fields
returns-clause-fields c = search rules steps 1000000
