use Rattle.tc_station.proofs.Names.{◌≡◌, ◌≤◌, All, vec_len, vec_capacity, IsRoomFor}
use Rattle.tc_station.proofs.station.rooms.Given as goal

abbrev pub invariant-loop : goal.invariant-loop
invariant-loop l = (vec_len l.rooms ≡ l.counter) × All (IsRoomFor l.vcids) l.rooms.items × (l.n ≤ vec_capacity l.rooms)
