use Rattle.std.proofs.Common.{◌<◌, subst, sym, ◌∙◌}
use Rattle.tc_packet.proofs.Names.{OpenRuns, stream_place}
use Rattle.tc_packet.proofs.Unlimited.{leave-within, place-inside, whole-unit}
use Rattle.tc_packet.specs.Reassembly.{Leave}
use Rattle.tc_packet.proofs.reassembler.Reassembler.unit_after.Goals as goal

pub returns-clause-unit : goal.returns-clause-unit
returns-clause-unit c = λ fields left.
    let place = stream_place c.args.service c.args.field.now in
    let store = c.self.inside.runs in
    let inside : place < 128 = place-inside c.args.service c.args.field.now in
    let limit = c.self.invariant.limits place inside in
    let left' = subst (λ (x : OpenRuns). Leave fields x place) (sym c.self.view_is) left in
    rw (← c.self.view_is) (c.in_ok-unit.ensures fields (leave-within store place limit inside fields left') ∙ whole-unit store place limit inside fields c.args.field.now)
