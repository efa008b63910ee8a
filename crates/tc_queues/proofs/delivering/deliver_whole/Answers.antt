use Rattle.tc_queues.proofs.Names.{◌<◌, length, refl, arith, boxed_slice_items, length-map, ring_in, rings_in}
use Rattle.tc_queues.proofs.Ways.{put-whole, put-none}
use Rattle.tc_queues.proofs.delivering.deliver_whole.Goals as goal

pub returns-then-put-clause-put : goal.returns-then-put-clause-put
returns-then-put-clause-put g c =
    let done = c.in_ok-put.ensures.put.done c.if-put.true in
    let inside : c.args.place < length (rings_in (boxed_slice_items c.args.units.now)) = omega (arith, length-map (boxed_slice_items c.args.units.now) ring_in, c.requires.place) in
    put-whole c.args.map c.args.place c.args.unit.now (rings_in (boxed_slice_items c.args.units.now)) _ _ c.requires.distinct inside c.requires.key done.0 done.1 refl

pub returns-clause-put : goal.returns-clause-put
returns-clause-put g c =
    let full = c.in_ok-put.ensures.put.full c.if-put.false in
    let inside : c.args.place < length (rings_in (boxed_slice_items c.args.units.now)) = omega (arith, length-map (boxed_slice_items c.args.units.now) ring_in, c.requires.place) in
    put-none c.args.map c.args.place c.args.unit.now (rings_in (boxed_slice_items c.args.units.now)) _ _ c.requires.distinct inside c.requires.key full.0 full.1 refl
