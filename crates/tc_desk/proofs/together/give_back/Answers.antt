use Rattle.tc_desk.proofs.Names.{All, subst, sym, IsFresh}
use Rattle.tc_desk.proofs.Rows.{fresh-reverse, given_back}
use Rattle.tc_desk.proofs.together.give_back.Goals as goal

pub leave_all-requires-clause-fresh : goal.leave_all-requires-clause-fresh
leave_all-requires-clause-fresh g c = subst (All IsFresh) (sym c.reverse.ensures.items) (fresh-reverse c.args.guards.items c.requires.fresh)

pub returns : goal.returns
returns g c = given_back c.args.owned_desks.items _ c.args.guards.items _ c.requires.empty c.reverse.ensures.items c.leave_all.ensures
