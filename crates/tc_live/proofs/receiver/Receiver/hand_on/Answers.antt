use Rattle.std.proofs.lemmas.Result.{on_ok_weaker}
use Rattle.tc_live.proofs.Deliveries.{handed-on}
use Rattle.tc_live.proofs.receiver.Receiver.hand_on.Goals as goal

pub returns : goal.returns
returns g c =
    on_ok_weaker c.hand_on.result
    (handed-on c.args.self.now c.self.inside.check c.self.inside.ends c.self.inside.scid c.self.inside.stage c.in-Operating.rack c.hand_on.new.self c.args.vcid _ _ c.self.view_is c.in-Operating.is)
    c.hand_on.ensures
