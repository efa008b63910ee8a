use Rattle.tc_queues.proofs.Names.{◌≡◌, ◌≤◌, length, take, map, replicate, empty_unit_queue, stored, rings_in, room_sizes, AreCommitted}
use Rattle.tc_queues.proofs.new_queues.empty_unit_queues.Given as goal

abbrev pub invariant-loop-chosen : goal.invariant-loop-chosen
invariant-loop-chosen g l = record {
  count : length l.units.items ≡ l.chosen-index;
  room : length l.maps ≤ l.units.cap;
  rings : rings_in l.units.items ≡ map stored (map empty_unit_queue (take l.chosen-index l.maps));
  sizes : room_sizes l.units.items ≡ replicate l.chosen-index l.size;
  committed : AreCommitted l.units.items;
}
