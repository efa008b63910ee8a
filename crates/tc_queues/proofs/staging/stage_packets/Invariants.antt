use Rattle.tc_queues.proofs.Names.{◌≡◌, ◌+◌, ◌≤◌, ℕ, true, false, length, boxed_slice_items, packets_of, rest_of, keys_of, IsOnItsWay, IsAmong, AreStagedOf, rings_in, all_staged_in, room_sizes, AreCommitted, looks, pass_steps}
use Rattle.tc_queues.proofs.staging.stage_packets.Given as goal

-- the packets that were cut so far went into their queues or were dropped, and the packets of `rest` remain
abbrev pub invariant-loop-packet : goal.invariant-loop-packet
invariant-loop-packet g l = record {
  way : IsOnItsWay (rings_in (boxed_slice_items l.fn.queues)) (packets_of l.rest) (packets_of l.unit) l.queued (all_staged_in (boxed_slice_items l.queues));
  packets : l.packets + length (packets_of l.rest) ≡ length (packets_of l.unit);
  within : l.packets + length l.rest ≤ length l.unit;
  few : l.queued ≤ l.packets;
  rest : rest_of l.rest ≡ rest_of l.unit;
  among : AreStagedOf (packets_of l.unit) (boxed_slice_items l.queues);
  more : (key : ℕ) → IsAmong key (packets_of l.rest) → IsAmong key (packets_of l.unit);
  cost : g.C.Tick.taken l.steps + pass_steps (length (packets_of l.rest)) (looks (boxed_slice_items l.fn.queues) l.table) ≤ g.C.Tick.taken l.fn.steps + pass_steps (length (packets_of l.unit)) (looks (boxed_slice_items l.fn.queues) l.table);
  sizes : room_sizes (boxed_slice_items l.queues) ≡ room_sizes (boxed_slice_items l.fn.queues);
  rings : g.R.Room.grows ≡ true → rings_in (boxed_slice_items l.queues) ≡ rings_in (boxed_slice_items l.fn.queues);
  keys : keys_of (rings_in (boxed_slice_items l.queues)) ≡ keys_of (rings_in (boxed_slice_items l.fn.queues));
  committed : g.R.Room.grows ≡ false → AreCommitted (boxed_slice_items l.queues);
}

abbrev pub decreases-loop-packet : goal.decreases-loop-packet
decreases-loop-packet g l = length l.rest
