use Rattle.tc_desk.proofs.Names.{Some, arith, IsFresh, All-pop}
use Rattle.tc_desk.proofs.Rows.{roll_back_step}
use Rattle.tc_desk.proofs.together.leave_all.Goals as goal

pub loop-desk-preserved : goal.loop-desk-preserved
loop-desk-preserved g c =
    let i = c.loop-desk.invariant in
    let room = i.2 in let shorter = c.in-Some.ensures.cases in let longer = c.push_reserved.ensures.len in let same = c.push_reserved.ensures.capacity in (
      roll_back_step _ _ _ _ _ c.leave.result c.in-Some.desk c.in-Some.ensures.items c.push_reserved.ensures.items c.leave.ensures.lock c.leave.ensures.head c.leave.ensures.issued i.0,
      (All-pop IsFresh _ _ (Some c.in-Some.desk) c.in-Some.ensures.items i.1).0,
      omega (arith, room, shorter, longer, same),
    )

pub leave-requires : goal.leave-requires
leave-requires g c = (All-pop IsFresh _ _ (Some c.in-Some.desk) c.in-Some.ensures.items c.loop-desk.invariant.1).1
