use Rattle.tc_queues.proofs.Names.{◌≡◌, ◌≤◌, length, take, map, replicate, empty_queue, stored, rings_in, room_sizes, AreCommitted}
use Rattle.tc_queues.proofs.new_queues.empty_queues.Given as goal

abbrev pub invariant-loop-setting : goal.invariant-loop-setting
invariant-loop-setting g l = record {
  count : length l.queues.items ≡ l.setting-index;
  room : length l.settings ≤ l.queues.cap;
  rings : rings_in l.queues.items ≡ map stored (map empty_queue (take l.setting-index l.settings));
  sizes : room_sizes l.queues.items ≡ replicate l.setting-index l.size;
  committed : AreCommitted l.queues.items;
}
