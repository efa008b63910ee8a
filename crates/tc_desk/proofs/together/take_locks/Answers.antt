use Rattle.tc_desk.proofs.Names.{rules}
use Rattle.tc_desk.proofs.Rows.{all_guard}
use Rattle.tc_desk.proofs.together.take_locks.Goals as goal

pub returns-clause-guard : goal.returns-clause-guard
returns-clause-guard g c = all_guard c.args.owned_desks.items _ _ _ (c.hold_all.ensures.done (search rules)) c.hold_all.ensures.all c.reverse.ensures.items c.hold_all.ensures.fresh
