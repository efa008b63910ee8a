use Rattle.tc_station.proofs.Names.{◌≡◌, ◌≤◌, ◌+◌, All, replicate, vec_len, vec_capacity, IsRoomFor, issued_more, newcomer_at_desks}
use Rattle.tc_station.proofs.station.issue.Given as goal

abbrev pub invariant-loop-room : goal.invariant-loop-room
invariant-loop-room g l =
    (l.owned_desks ≡ issued_more (vec_len l.operators) l.fn.owned_desks) × (l.operators.items ≡ replicate (vec_len l.operators) (newcomer_at_desks l.vcids l.fn.owned_desks))
    × All (IsRoomFor l.vcids) l.rooms.items × (vec_len l.operators + vec_len l.rooms ≡ l.n) × (l.n ≤ vec_capacity l.operators)

abbrev pub decreases-loop-room : goal.decreases-loop-room
decreases-loop-room g l = vec_len l.rooms
