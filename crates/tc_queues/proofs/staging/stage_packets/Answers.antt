use Rattle.tc_queues.proofs.Names.{◌≡◌, ◌≤◌, ◌++◌, ℕ, inl, inr, length, refl, sym, ap, ◌∙◌, arith, boxed_slice_items, common_steps, packets_of, rest_of, joined, rings_in, all_staged_in, room_sizes, looks, pass_steps}
use Rattle.tc_queues.proofs.InRooms.{staged-none, fit-enough}
use Rattle.tc_queues.proofs.Counts.{pass-step, cut-one, cut-last, looks-same, same-count}
use Rattle.tc_queues.proofs.Contents.{none-staged}
use Rattle.tc_queues.proofs.Ways.{at-start, first-short, at-end}
use Rattle.tc_queues.proofs.staging.stage_packets.Goals as goal

pub loop-packet-init : goal.loop-packet-init
loop-packet-init g c =
    let rings = rings_in (boxed_slice_items c.args.queues.now) in
    record {
      way = at-start rings (all_staged_in (boxed_slice_items c.args.queues.now)) (packets_of c.args.unit.now) (staged-none (boxed_slice_items c.args.queues.now) c.requires.committed);
      packets = omega arith;
      within = omega arith;
      few = omega arith;
      rest = refl;
      among = none-staged (boxed_slice_items c.args.queues.now) (packets_of c.args.unit.now) c.requires.committed;
      more = λ key among. among;
      cost = omega arith;
      sizes = refl;
      rings = λ _. refl;
      keys = refl;
      committed = λ _. c.requires.committed;
    }

pub stage_packet-requires-clause-fits : goal.stage_packet-requires-clause-fits
stage_packet-requires-clause-fits g c =
    let rest = c.loop-packet.rest.now in
    let cut = c.each_unit_has_one_cut.ensures.cut rest in
    let short : length c.in-Some.packet.octets.now ≤ length rest = first-short rest c.in-Some.packet.octets.now (rest_of rest) (packets_of c.in-Some.after.now) (cut.parts ∙ ap (λ x. joined x ++ rest_of rest) c.in-Some.ensures.packets) in
    let within = c.loop-packet.invariant.within in
    rw c.loop-packet.invariant.sizes (fit-enough c.in-Some.packet.octets.now (length c.args.unit.now) (room_sizes (boxed_slice_items c.args.queues.now)) c.requires.fits (omega arith))

pub returns-clause-put : goal.returns-clause-put
returns-clause-put g c =
    let none : length (packets_of c.loop-packet.rest.now) ≡ 0 = ap length c.in_default.ensures.no_packets in
    let whole = c.loop-packet.invariant.packets in
    let all : c.loop-packet.packets ≡ length (packets_of c.args.unit.now) = omega arith in
    at-end c.args.unit.now (rings_in (boxed_slice_items c.args.queues.now)) (all_staged_in (boxed_slice_items c.loop-packet.queues)) (packets_of c.loop-packet.rest.now) c.loop-packet.queued _ c.in_default.ensures.no_packets c.loop-packet.invariant.way
    (grind (arith, common_steps))

pub returns-in_err-one-clause-among : goal.returns-in_err-one-clause-among
returns-in_err-one-clause-among g c =
    let more = rw c.in-Some.ensures.packets at c.loop-packet.invariant.more in
    c.stage_packet.ensures.among (packets_of c.args.unit.now) (λ key for_it. more key (inl for_it)) c.loop-packet.invariant.among

pub loop-packet-preserved : goal.loop-packet-preserved
loop-packet-preserved g c =
    let i = c.loop-packet.invariant in
    let one : ℕ = looks (boxed_slice_items c.args.queues.now) c.args.table.now in
    let more = rw c.in-Some.ensures.packets at i.more in
    let count = ap length c.in-Some.ensures.packets in
    let packets = i.packets in
    let within = i.within in
    let few = i.few in
    let few_more = c.in_ok-one.ensures.one in
    let shorter = c.in-Some.ensures.shorter in
    record {
      way = c.in_ok-one.ensures.way (rings_in (boxed_slice_items c.args.queues.now)) (packets_of c.in-Some.after.now) (packets_of c.args.unit.now) c.loop-packet.queued (rw c.in-Some.ensures.packets at i.way);
      packets = omega arith;
      within = omega arith;
      few = omega arith;
      rest = sym c.in-Some.ensures.rest ∙ i.rest;
      among = c.stage_packet.ensures.among (packets_of c.args.unit.now) (λ key for_it. more key (inl for_it)) i.among;
      more = λ key among. more key (inr among);
      cost = cut-one (g.C.Tick.taken c.args.steps.now) (pass_steps (length (packets_of c.args.unit.now)) one) (g.C.Tick.taken c.loop-packet.steps) (pass_steps (length (packets_of c.loop-packet.rest.now)) one) (pass_steps (length (packets_of c.in-Some.after.now)) one) one (g.C.Tick.taken c.tick.new.self)
          (looks (boxed_slice_items c.loop-packet.queues) c.args.table.now) (g.C.Tick.taken c.stage_packet.new.steps) (ap (λ n. pass_steps n one) (ap length c.in-Some.ensures.packets) ∙ pass-step (length (packets_of c.in-Some.after.now)) one) c.loop-packet.invariant.cost c.tick.ensures.most c.stage_packet.ensures.cost
          (looks-same (boxed_slice_items c.loop-packet.queues) (boxed_slice_items c.args.queues.now) c.args.table.now (same-count (boxed_slice_items c.loop-packet.queues) (boxed_slice_items c.args.queues.now) c.loop-packet.invariant.keys));
      sizes = c.stage_packet.ensures.sizes ∙ i.sizes;
      rings = λ grows. c.stage_packet.ensures.rings grows ∙ i.rings grows;
      keys = c.stage_packet.ensures.keys ∙ i.keys;
      committed = λ none. c.stage_packet.ensures.committed none;
    }

pub returns-in_err-one-clause-cost : goal.returns-in_err-one-clause-cost
returns-in_err-one-clause-cost g c =
    let one : ℕ = looks (boxed_slice_items c.args.queues.now) c.args.table.now in
    cut-last (g.C.Tick.taken c.args.steps.now) (pass_steps (length (packets_of c.args.unit.now)) one) (g.C.Tick.taken c.loop-packet.steps) (pass_steps (length (packets_of c.loop-packet.rest.now)) one) (pass_steps (length (packets_of c.in-Some.after.now)) one) one (g.C.Tick.taken c.tick.new.self)
    (looks (boxed_slice_items c.loop-packet.queues) c.args.table.now) (g.C.Tick.taken c.stage_packet.new.steps) (ap (λ n. pass_steps n one) (ap length c.in-Some.ensures.packets) ∙ pass-step (length (packets_of c.in-Some.after.now)) one) c.loop-packet.invariant.cost c.tick.ensures.most c.stage_packet.ensures.cost
    (looks-same (boxed_slice_items c.loop-packet.queues) (boxed_slice_items c.args.queues.now) c.args.table.now (same-count (boxed_slice_items c.loop-packet.queues) (boxed_slice_items c.args.queues.now) c.loop-packet.invariant.keys))
