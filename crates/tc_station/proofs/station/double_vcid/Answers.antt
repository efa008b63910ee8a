use Rattle.tc_station.proofs.Distinct.{distinct-more}
use Rattle.tc_station.proofs.station.double_vcid.Goals as goal

pub loop-i-preserved : goal.loop-i-preserved
loop-i-preserved c =
    distinct-more c.args.list.now c.loop-i.i c.index-list-i.result c.loop-i-test.true c.index-list-i.is (λ earlier. absurd (let t = c.if-has_vcid.ensures.1 earlier in cc)) c.loop-i.invariant
