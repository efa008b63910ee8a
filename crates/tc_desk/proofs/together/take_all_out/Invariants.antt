use Rattle.tc_desk.proofs.Names.{◌≡◌, ◌+◌, vec_len, vec_capacity, AreOut}
use Rattle.tc_desk.proofs.together.take_all_out.Given as goal

abbrev pub invariant-loop-desk : goal.invariant-loop-desk
invariant-loop-desk g l =
    AreOut l.yielded l.room.items
    × (vec_len l.room + l.desk-iterator.rest.len ≡ vec_len l.fn.guards) × (vec_capacity l.room ≡ vec_capacity l.fn.room)
