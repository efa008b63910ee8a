use Rattle.tc_queues.proofs.Names.{◌≡◌, ◌+◌, ◌≤◌, length, map, boxed_slice_items, packets_of, keys_of, AreStagedOf, rings_in, committed, looks, pass_steps}
use Rattle.tc_queues.proofs.committing.commit_packets.Given as goal

-- items are staged only in queues that want one of the remaining packets
abbrev pub invariant-loop-packet : goal.invariant-loop-packet
invariant-loop-packet g l = record {
  among : AreStagedOf (packets_of l.rest) (boxed_slice_items l.queues);
  committed : map committed (boxed_slice_items l.queues) ≡ map committed (boxed_slice_items l.fn.queues);
  cost : g.C.Tick.taken l.steps + pass_steps (length (packets_of l.rest)) (looks (boxed_slice_items l.fn.queues) l.table) ≤ g.C.Tick.taken l.fn.steps + pass_steps (length (packets_of l.unit)) (looks (boxed_slice_items l.fn.queues) l.table);
  keys : keys_of (rings_in (boxed_slice_items l.queues)) ≡ keys_of (rings_in (boxed_slice_items l.fn.queues));
}

abbrev pub decreases-loop-packet : goal.decreases-loop-packet
decreases-loop-packet g l = length l.rest
