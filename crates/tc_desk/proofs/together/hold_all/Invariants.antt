use Rattle.tc_desk.proofs.Names.{◌≡◌, ◌≤◌, ◌+◌, ◌++◌, reverse, All, vec_len, vec_capacity, owners_of, IsFresh}
use Rattle.tc_desk.proofs.together.hold_all.Given as goal

abbrev pub invariant-loop-owned_desk : goal.invariant-loop-owned_desk
invariant-loop-owned_desk g l =
    (l.owned_desks.items ++ reverse (owners_of l.guards.items) ≡ l.fn.owned_desks.items)
    × All IsFresh l.guards.items
    × (vec_len l.owned_desks + vec_len l.guards ≤ vec_capacity l.owned_desks)
    × (vec_len l.owned_desks + vec_len l.guards ≤ vec_capacity l.guards)

abbrev pub decreases-loop-owned_desk : goal.decreases-loop-owned_desk
decreases-loop-owned_desk g l = vec_len l.owned_desks
