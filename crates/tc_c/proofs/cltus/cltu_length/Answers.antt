use Rattle.std.proofs.Common.{arith}
use Rattle.tc_c.proofs.Blocks.{cltu-length}
use Rattle.tc_c.proofs.cltus.cltu_length.Goals as goal

pub returns : goal.returns
returns c = let all = cltu-length c.args.frame.now in omega arith
