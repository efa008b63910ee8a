use Rattle.tc_queues.proofs.Names.{◌<◌, length, arith, boxed_slice_items, length-map, ring_in, rings_in}
use Rattle.tc_packet.proofs.Sizes.{if-ok}
use Rattle.tc_queues.proofs.Ways.{by-packets, by-unit}
use Rattle.tc_queues.proofs.delivering.deliver.Goals as goal

pub returns-in-Some-clause-delivered : goal.returns-in-Some-clause-delivered
returns-in-Some-clause-delivered g c =
    let some = rw c.deref.ensures.value at c.in-Some.ensures.some in
    let lt = some.0 in
    let inside : c.in-Some.place < length (rings_in (boxed_slice_items c.args.units.now)) = omega (arith, length-map (boxed_slice_items c.args.units.now) ring_in, lt) in
    if-ok _ _ c.deliver_whole.result (λ d put. by-unit c.args.map c.in-Some.place c.args.unit.now (rings_in (boxed_slice_items c.args.queues.now)) (rings_in (boxed_slice_items c.args.units.now)) _ d inside some.1 put) c.deliver_whole.ensures.put

pub returns-in-None-clause-delivered : goal.returns-in-None-clause-delivered
returns-in-None-clause-delivered g c =
    let none = rw c.deref.ensures.value at c.in-None.ensures.none in
    if-ok _ _ c.deliver_packets.result (λ d put. by-packets c.args.map c.args.unit.now (rings_in (boxed_slice_items c.args.queues.now)) _ (rings_in (boxed_slice_items c.args.units.now)) d none put) c.deliver_packets.ensures.put
