use Rattle.tc_channel.proofs.Names.{◌≡◌, ◌∙◌, inr, arith, common_steps, stream_place, map_of}
use Rattle.tc_packet.proofs.Stores.{committed-limits, committed-segmented}
use Rattle.tc_packet.specs.Reassembly.{place_of}
use Rattle.tc_packet.specs.Store.{unit_in}
use Rattle.tc_channel.proofs.AtWork.{on-err}
use Rattle.tc_channel.proofs.Sizes.{fits-unit, within-all, place-below}
use Rattle.tc_channel.proofs.Within.{committed-follows}
use Rattle.tc_channel.proofs.channel_core.pass.Goals as goal

pub deliver_ended-requires-clause-within : goal.deliver_ended-requires-clause-within
deliver_ended-requires-clause-within g c =
    within-all c.args.runs.now (stream_place c.args.service c.args.field.now) (unit_in c.in_ok-ended.ended c.stage.new.self c.args.field.now) (place-below c.args.service c.args.field.now) c.requires.rooms.small c.in_ok-ended.ensures.within

pub deliver_ended-requires-clause-fits : goal.deliver_ended-requires-clause-fits
deliver_ended-requires-clause-fits g c =
    fits-unit c.args.runs.now (stream_place c.args.service c.args.field.now) c.args.field.now (unit_in c.in_ok-ended.ended c.stage.new.self c.args.field.now) _ (place-below c.args.service c.args.field.now) c.requires.rooms.small c.requires.rooms.sizes c.requires.within
    c.in_ok-ended.ensures.within c.in_ok-ended.ensures.shorter

pub deliver_ended-requires-clause-units_fit : goal.deliver_ended-requires-clause-units_fit
deliver_ended-requires-clause-units_fit g c =
    fits-unit c.args.runs.now (stream_place c.args.service c.args.field.now) c.args.field.now (unit_in c.in_ok-ended.ended c.stage.new.self c.args.field.now) _ (place-below c.args.service c.args.field.now) c.requires.rooms.small c.requires.rooms.unit_sizes c.requires.within
    c.in_ok-ended.ensures.within c.in_ok-ended.ensures.shorter

pub returns-clause-follows : goal.returns-clause-follows
returns-clause-follows g c =
    let at : place_of c.args.service c.read_segment-map.result.map ≡ stream_place c.args.service c.args.field.now = grind (arith, common_steps) in
    committed-follows c.args.runs.now c.stage.new.self c.commit.new.self c.in_ok-ended.ended c.args.service c.args.field.now (place_of c.args.service c.read_segment-map.result.map) at c.commit.ensures
    c.stage.ensures.segmented c.stage.ensures.limits c.in_ok-ended.ensures.run c.stage.ensures.others

pub returns-clause-rooms : goal.returns-clause-rooms
returns-clause-rooms g c = record {
  limits_are = λ place. rw c.commit.ensures (committed-limits c.stage.new.self c.in_ok-ended.ended (place_of c.args.service c.read_segment-map.result.map) place ∙ c.stage.ensures.limits place);
  segmented = rw c.commit.ensures (committed-segmented c.stage.new.self c.in_ok-ended.ended (place_of c.args.service c.read_segment-map.result.map) ∙ c.stage.ensures.segmented);
  sizes = c.deliver_ended.ensures.sizes;
  unit_sizes = c.deliver_ended.ensures.unit_sizes;
  committed = c.deliver_ended.ensures.committed;
  units_committed = c.deliver_ended.ensures.units_committed;
}

pub returns-clause-delivered : goal.returns-clause-delivered
returns-clause-delivered g c =
    let map : c.read_segment-map.result.map ≡ map_of c.args.field.now = grind (arith, common_steps) in
    (unit_in c.in_ok-ended.ended c.stage.new.self c.args.field.now, c.in_ok-ended.ensures.unit, rw (← map) c.in_ok-delivery.ensures.delivered)

pub returns-clause-cost : goal.returns-clause-cost
returns-clause-cost g c = (unit_in c.in_ok-ended.ended c.stage.new.self c.args.field.now, c.in_ok-ended.ensures.unit, c.in_ok-delivery.ensures.cost)

pub returns-in_err-delivery-clause-refused_cost : goal.returns-in_err-delivery-clause-refused_cost
returns-in_err-delivery-clause-refused_cost g c = on-err c.from_residual-in_err-delivery.result _ (inr (unit_in c.in_ok-ended.ended c.stage.new.self c.args.field.now, c.in_ok-ended.ensures.unit, c.in_err-delivery.ensures.refused_cost))
