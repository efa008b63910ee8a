use Rattle.tc_make.proofs.Names.{Appends-nil, [], on_ok_weaker, refl}
use Rattle.tc_make.proofs.Written.{packet-on, packets-end}
use Rattle.tc_make.proofs.explained.write_unit.Goals as goal

pub loop-packet-init : goal.loop-packet-init
loop-packet-init g c = ([], Appends-nil _, refl)

pub loop-packet-preserved : goal.loop-packet-preserved
loop-packet-preserved g c =
    let so_far = c.loop-packet.invariant in
    packet-on _ _ _ c.in-Some.packet c.args.unit.now c.loop-packet.rest.now c.in-Some.after.now so_far.0 c.in-Some.ensures.fields
    c.in-Some.ensures.packets c.in-Some.ensures.rest so_far.1 so_far.2 c.in_ok-write_packet.ensures

pub returns : goal.returns
returns g c =
    let so_far = c.loop-packet.invariant in
    on_ok_weaker c.write_some.result (packets-end _ _ _ c.args.unit.now c.loop-packet.rest.now so_far.0 c.in_default.ensures.no_packets c.in_default.ensures.all_rest so_far.1 so_far.2)
    c.write_some.ensures
