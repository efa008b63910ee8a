use Rattle.std.proofs.Common.{rules}
use Rattle.tc_link.proofs.frame.Frame.octets.Goals as goal

pub returns-clause-octets : goal.returns-clause-octets
returns-clause-octets c = search rules steps 1000000
