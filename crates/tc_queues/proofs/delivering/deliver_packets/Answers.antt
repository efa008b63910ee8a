use Rattle.tc_queues.proofs.Names.{◌≡◌, [], refl, sym, subst, ◌∙◌, ap, map-map, boxed_slice_items, keys_of, Keyed, ring_in, rings_in, all_staged_in, room_sizes, committed, roll_back, AreCommitted}
use Rattle.tc_queues.proofs.Lists.{all-map}
use Rattle.tc_queues.proofs.InRooms.{same-keys}
use Rattle.std.proofs.lemmas.Bool.{true_from_ne_false}
use Rattle.tc_queues.proofs.delivering.deliver_packets.Goals as goal

pub returns-in-Ok-clause-put : goal.returns-in-Ok-clause-put
returns-in-Ok-clause-put g c =
    let rings : rings_in (boxed_slice_items c.commit_packets.new.queues) ≡ all_staged_in (boxed_slice_items c.stage_packets.new.queues) = ap rings_in c.commit_packets.ensures.committed ∙ map-map ring_in committed (boxed_slice_items c.stage_packets.new.queues) in
    rw rings c.in-Ok.ensures.put

pub returns-in-Ok-clause-committed : goal.returns-in-Ok-clause-committed
returns-in-Ok-clause-committed g c = subst AreCommitted (sym c.commit_packets.ensures.committed) (all-map (λ (q : Keyed). q.slots.staged ≡ []) committed (boxed_slice_items c.stage_packets.new.queues) (λ q. refl))

pub returns-in-Ok-clause-keys : goal.returns-in-Ok-clause-keys
returns-in-Ok-clause-keys g c = ap (λ x. keys_of (rings_in x)) c.commit_packets.ensures.committed ∙ ap keys_of (map-map ring_in committed (boxed_slice_items c.stage_packets.new.queues)) ∙ same-keys (boxed_slice_items c.stage_packets.new.queues) ∙ c.stage_packets.ensures.keys

pub returns-in-Ok-clause-sizes : goal.returns-in-Ok-clause-sizes
returns-in-Ok-clause-sizes g c = ap room_sizes c.commit_packets.ensures.committed ∙ map-map (λ (q : Keyed). q.slots.size) committed (boxed_slice_items c.stage_packets.new.queues) ∙ c.stage_packets.ensures.sizes

pub returns-in-Err-clause-refused : goal.returns-in-Err-clause-refused
returns-in-Err-clause-refused g c = ap rings_in c.roll_back.ensures.roll_back ∙ map-map ring_in roll_back (boxed_slice_items c.stage_packets.new.queues) ∙ c.stage_packets.ensures.rings (true_from_ne_false g.R.Room.grows (λ none. let ok = rw c.in-Err.is at c.stage_packets.ensures.answered none in absurd cc))

pub returns-in-Err-clause-committed : goal.returns-in-Err-clause-committed
returns-in-Err-clause-committed g c = subst AreCommitted (sym c.roll_back.ensures.roll_back) (all-map (λ (q : Keyed). q.slots.staged ≡ []) roll_back (boxed_slice_items c.stage_packets.new.queues) (λ q. refl))

pub returns-in-Err-clause-keys : goal.returns-in-Err-clause-keys
returns-in-Err-clause-keys g c = ap (λ x. keys_of (rings_in x)) c.roll_back.ensures.roll_back ∙ ap keys_of (map-map ring_in roll_back (boxed_slice_items c.stage_packets.new.queues)) ∙ c.stage_packets.ensures.keys

pub returns-in-Err-clause-sizes : goal.returns-in-Err-clause-sizes
returns-in-Err-clause-sizes g c = ap room_sizes c.roll_back.ensures.roll_back ∙ map-map (λ (q : Keyed). q.slots.size) roll_back (boxed_slice_items c.stage_packets.new.queues) ∙ c.stage_packets.ensures.sizes
