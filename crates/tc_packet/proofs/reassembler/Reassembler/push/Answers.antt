use Rattle.std.proofs.Common.{◌≡◌, subst, sym, ap, ◌∙◌, arith}
use Rattle.tc_packet.proofs.Names.{OpenRuns, common_steps, run_at, stream_place}
use Rattle.tc_packet.proofs.Unlimited.{leave-within, moved, others-stay, place-inside, taken, unlimited-moved, whole-unit}
use Rattle.tc_packet.specs.Reassembly.{Leave}
use Rattle.tc_packet.specs.Store.{committed}
use Rattle.tc_packet.proofs.reassembler.Reassembler.push.Goals as goal

pub invariant_of-self-2 : goal.invariant_of-self-2
invariant_of-self-2 c =
    let e = c.in_ok-ended.ensures in
    let place = stream_place c.args.service c.args.field.now in
    let is : c.commit.new.self ≡ committed c.in_ok-ended.ended place c.stage.new.self = grind (arith, common_steps) in
    unlimited-moved (place-inside c.args.service c.args.field.now) c.self.invariant (taken c.stage.new.self c.in_ok-ended.ended e.segmented e.limits e.others e.run is)

pub returns-clause-limit : goal.returns-clause-limit
returns-clause-limit c = (invariant_of-self-2 c).runs

pub returns-clause-unit : goal.returns-clause-unit
returns-clause-unit c = λ fields left.
    let place = stream_place c.args.service c.args.field.now in
    let store = c.self.inside.runs in
    let inside = place-inside c.args.service c.args.field.now in
    let limit = c.self.invariant.limits place inside in
    let left' = subst (λ (x : OpenRuns). Leave fields x place) (sym c.self.view_is) left in
    rw (← c.self.view_is) (c.in_ok-unit.ensures.unit ∙ c.in_ok-ended.ensures.unit fields (leave-within store place limit inside fields left')
    ∙ whole-unit store place limit inside fields c.args.field.now)

pub returns-clause-run : goal.returns-clause-run
returns-clause-run c = λ fields left.
    let e = c.in_ok-ended.ensures in
    let place = stream_place c.args.service c.args.field.now in
    let is : c.commit.new.self ≡ committed c.in_ok-ended.ended place c.stage.new.self = grind (arith, common_steps) in
    moved (place-inside c.args.service c.args.field.now) c.self.invariant (taken c.stage.new.self c.in_ok-ended.ended e.segmented e.limits e.others e.run is) fields
    (subst (λ (x : OpenRuns). Leave fields x place) (sym c.self.view_is) left)

pub returns-clause-others : goal.returns-clause-others
returns-clause-others c = λ other apart.
    let e = c.in_ok-ended.ensures in
    let place = stream_place c.args.service c.args.field.now in
    let is : c.commit.new.self ≡ committed c.in_ok-ended.ended place c.stage.new.self = grind (arith, common_steps) in
    others-stay c.self.inside.runs c.commit.new.self place (taken {field = c.args.field.now} c.stage.new.self c.in_ok-ended.ended e.segmented e.limits e.others e.run is).others other apart
    ∙ ap (λ (v : OpenRuns). run_at v.runs other) c.self.view_is
