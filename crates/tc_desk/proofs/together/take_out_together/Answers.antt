use Rattle.tc_desk.proofs.Names.{◌∙◌, ap, settings_of_desks}
use Rattle.tc_desk.proofs.Rows.{settings_out}
use Rattle.tc_desk.proofs.together.take_out_together.Goals as goal

pub returns-in-Ok-take_locks-clause-channels : goal.returns-in-Ok-take_locks-clause-channels
returns-in-Ok-take_locks-clause-channels g c = settings_out c.in-Ok-take_locks.both.1.items c.take_all_out.result.items c.take_all_out.ensures ∙ ap settings_of_desks c.in-Ok-take_locks.ensures.guard.0
