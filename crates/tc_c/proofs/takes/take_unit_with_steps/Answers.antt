use Rattle.std.proofs.Common.{length}
use Rattle.tc_c.proofs.Returned.{length-needed, not-taken}
use Rattle.tc_c.proofs.takes.take_unit_with_steps.Goals as goal

pub returns-in-Err-NoRoom-clause-taken : goal.returns-in-Err-NoRoom-clause-taken
returns-in-Err-NoRoom-clause-taken g c = not-taken _ (length c.args.to.now) c.in-Err-NoRoom.needed _ ((c.take_unit_with_steps.ensures.no_room c.in-Err-NoRoom.needed).0 cc)

pub returns-in-Err-NoRoom-clause-no_room : goal.returns-in-Err-NoRoom-clause-no_room
returns-in-Err-NoRoom-clause-no_room g c = length-needed _ (length c.args.to.now) c.in-Err-NoRoom.needed c.no_room.result ((c.take_unit_with_steps.ensures.no_room c.in-Err-NoRoom.needed).0 cc) c.no_room.ensures
