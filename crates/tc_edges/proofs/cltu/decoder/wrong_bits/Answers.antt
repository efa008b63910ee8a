use Rattle.std.proofs.Common.{arith}
use Rattle.tc_edges.proofs.CltuLemmas.Starting.{counted}
use Rattle.tc_edges.proofs.cltu.decoder.wrong_bits.Goals as goal

pub returns : goal.returns
returns c = counted c.args.last c.args.octet (omega arith) (omega arith)
