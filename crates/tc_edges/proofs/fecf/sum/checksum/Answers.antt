use Rattle.std.proofs.Common.{◌∙◌}
use Rattle.tc_edges.proofs.FecfLemmas.Octets.{taken, four-taken}
use Rattle.tc_edges.proofs.fecf.sum.checksum.Goals as goal

pub loop-octet-preserved : goal.loop-octet-preserved
loop-octet-preserved c =
    rw c.with_octet-sum.ensures (taken c.loop-octet.sum c.loop-octet.octet-index c.loop-rest.rest.now c.loop-octet-test.true ∙ c.loop-octet.invariant)

pub loop-rest-preserved : goal.loop-rest-preserved
loop-rest-preserved c =
    four-taken c.loop-rest.sum c.with_four-sum.result c.loop-rest.rest.now c.split_at.result.0.now c.split_at.result.1.now c.loop-rest-test.true c.split_at.ensures.front c.split_at.ensures.back c.with_four-sum.ensures
    ∙ c.loop-rest.invariant
