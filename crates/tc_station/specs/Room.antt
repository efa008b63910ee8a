-- The room that is allocated for an operator before the operator is issued.
use Rattle.std.specs.Prelude.{◌≡◌, ◌≤◌, ℕ, List, [], length, vec_capacity}
use Rattle.tc_station.specs.declared.operator.Room.{Room}

-- this is room for an operator of channels with these ids
abbrev pub IsRoomFor : List ℕ → Room → Type 0
IsRoomFor vcids room = (room.vcids.items ≡ vcids) × (room.desks.items ≡ []) × (length vcids ≤ vec_capacity room.desks)
