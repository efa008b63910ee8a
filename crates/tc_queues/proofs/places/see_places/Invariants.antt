use Rattle.tc_queues.proofs.Names.{length, take, keys_of, rings_in, AreFirst}
use Rattle.tc_queues.proofs.places.see_places.Given as goal

-- the table shows the places of the queues so far
abbrev pub invariant-loop-place : goal.invariant-loop-place
invariant-loop-place g l = AreFirst (keys_of (rings_in (take l.place l.queues))) (length l.queues) l.table.items
