use Rattle.tc_make.proofs.Names.{IsEnded, on_ok_weaker}
use Rattle.tc_make.specs.Frames.{IsMadeFrame}
use Rattle.tc_make.proofs.Written.{made-on}
use Rattle.tc_make.proofs.answer.write_frame.Goals as goal

pub returns-in-Ok : goal.returns-in-Ok
returns-in-Ok g c =
    on_ok_weaker c.write_ended.result
    (made-on _ _ _ (λ frame. IsMadeFrame frame c.args.header.now c.args.segment c.args.octets.now) (IsEnded c.args.ending) _ c.in-Ok.ensures.made c.in-Ok.ensures.frame)
    c.write_ended.ensures
