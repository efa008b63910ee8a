use Rattle.tc_desk.proofs.Names.{All, subst, sym, arith, IsFresh, All-push}
use Rattle.tc_desk.proofs.Rows.{guard_step}
use Rattle.tc_desk.proofs.together.hold_all.Goals as goal

pub loop-owned_desk-preserved : goal.loop-owned_desk-preserved
loop-owned_desk-preserved g c =
    let i = c.loop-owned_desk.invariant in
    let shorter = c.in-Some.ensures.cases in let kept = c.in-Some.ensures.capacity in let longer = c.push_reserved-in-Some.ensures.len in let same = c.push_reserved-in-Some.ensures.capacity in
    let one = i.2 in let two = i.3 in (
      guard_step c.args.owned_desks.now.items c.loop-owned_desk.owned_desks.items c.pop.new.self.items c.loop-owned_desk.guards.items c.push_reserved-in-Some.new.self.items c.in-Some.owned_desk c.in-Ok.desk
          c.in-Some.ensures.items c.push_reserved-in-Some.ensures.items c.in-Ok.ensures.owner i.0,
      subst (All IsFresh) (sym c.push_reserved-in-Some.ensures.items) (All-push IsFresh c.loop-owned_desk.guards.items c.in-Ok.desk i.1 c.in-Ok.ensures.fresh),
      omega (arith, one, shorter, kept, longer),
      omega (arith, two, shorter, longer, same),
    )
