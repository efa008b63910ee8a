use Rattle.tc_make.proofs.Names.{IsEnded, on_ok_weaker}
use Rattle.tc_make.specs.Frames.{IsCommandFrame}
use Rattle.tc_make.proofs.Written.{made-on}
use Rattle.tc_make.proofs.answer.write_command.Goals as goal

pub returns-in-Ok : goal.returns-in-Ok
returns-in-Ok g c =
    on_ok_weaker c.write_ended.result
    (made-on _ _ _ (λ frame. IsCommandFrame frame c.args.scid c.args.vcid c.args.command) (IsEnded c.args.ending) _ c.in-Ok.ensures.made c.in-Ok.ensures.frame)
    c.write_ended.ensures
