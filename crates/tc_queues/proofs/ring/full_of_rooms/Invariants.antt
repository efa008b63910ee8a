use Rattle.std.proofs.Common.{◌≡◌, length, map}
use Rattle.tc_queues.specs.Rooms.{HaveSize}
use Rattle.tc_queues.proofs.ring.full_of_rooms.Given as goal

-- each round so far has put one room into the buffer
abbrev pub invariant-loop : goal.invariant-loop
invariant-loop g l = record {
  count : length l.rooms.items ≡ l.counter;
  room : l.rooms.capacity ≡ l.count;
  sizes : HaveSize l.size (map g.R.Room.contents l.rooms.items);
}
