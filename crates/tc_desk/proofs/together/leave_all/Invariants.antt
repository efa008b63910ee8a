use Rattle.tc_desk.proofs.Names.{◌≤◌, ◌+◌, ◌++◌, reverse, All, vec_len, vec_capacity, owners_of, AreSame, IsFresh}
use Rattle.tc_desk.proofs.together.leave_all.Given as goal

abbrev pub invariant-loop-desk : goal.invariant-loop-desk
invariant-loop-desk g l =
    AreSame (l.fn.owned_desks.items ++ reverse (owners_of l.fn.guards.items)) (l.owned_desks.items ++ reverse (owners_of l.guards.items))
    × All IsFresh l.guards.items
    × (vec_len l.owned_desks + vec_len l.guards ≤ vec_capacity l.owned_desks)

abbrev pub decreases-loop-desk : goal.decreases-loop-desk
decreases-loop-desk g l = vec_len l.guards
