use Rattle.tc_queues.proofs.Names.{refl, MapSetting}
use Rattle.tc_queues.proofs.Apart.{not-apart, apart-more}
use Rattle.tc_queues.proofs.settings.are_maps_apart.Goals as goal

pub returns-then-has_map : goal.returns-then-has_map
returns-then-has_map c =
    (λ yes. absurd cc, λ apart. absurd (not-apart (λ (m : MapSetting). m.map) c.args.maps.now c.loop-i.i _ c.loop-i-test.true (c.if-has_map.ensures.0 refl) apart))

pub loop-i-preserved : goal.loop-i-preserved
loop-i-preserved c = apart-more (λ (m : MapSetting). m.map) c.args.maps.now c.loop-i.i _ c.loop-i-test.true (λ earlier. absurd (let t = c.if-has_map.ensures.1 earlier in cc)) c.loop-i.invariant
