use Rattle.tc_c.proofs.Names.{arith}
use Rattle.tc_c.proofs.Receiving.{carried-behind}
use Rattle.tc_c.proofs.decoder.carry.Goals as goal

pub returns-in-Some-clause-carried : goal.returns-in-Some-clause-carried
returns-in-Some-clause-carried c =
    let room = c.requires in
    carried-behind c.args.carried c.args.frame.now _ c.args.block.now _ (omega arith) (grind arith) (omega arith)
