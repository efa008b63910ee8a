use Rattle.std.proofs.Common.{◌∙◌, Some, ap}
use Rattle.tc_c_lines.proofs.Returned.{sat}
use Rattle.tc_c_lines.proofs.calls.sit.Goals as goal

pub returns-in-Ok-new : goal.returns-in-Ok-new
returns-in-Ok-new c =
    sat c.args.start c.in-Ok.engine _ _ c.new.result _ c.in-Ok.is c.requires c.code-in-Ok-new.ensures (c.put.ensures ∙ ap Some c.in-Ok-new.ensures.ok)
    c.new.ensures.engine c.new.ensures.waits
