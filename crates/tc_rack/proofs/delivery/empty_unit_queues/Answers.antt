use Rattle.tc_rack.proofs.Names.{◌<◌, ◌∙◌, ap, arith, length, Settings}
use Rattle.tc_rack.proofs.Delivered.{none-emptied, units-emptied}
use Rattle.tc_rack.proofs.delivery.empty_unit_queues.Goals as goal

pub loop-place-init : goal.loop-place-init
loop-place-init g c = none-emptied _ _ _

pub loop-place-preserved : goal.loop-place-preserved
loop-place-preserved g c =
    let is = c.as_slice.ensures ∙ ap (λ (s : Settings). s.maps) (c.settings-in-loop-place.ensures ∙ c.loop-place.invariant.settings) in
    let count = c.len-count.ensures ∙ ap (λ (s : Settings). length s.maps) c.settings.ensures in
    let less : c.loop-place.place < length c.args.channel.now.history.settings.maps = omega (arith, c.loop-place-test.true, count) in
    units-emptied c.args.channel.now.history.settings _ _ _ _ _ _ _ _ _ c.loop-place.invariant is less c.in_ok-empty_queue.ensures.reported c.in_ok-empty_queue.ensures.settings
