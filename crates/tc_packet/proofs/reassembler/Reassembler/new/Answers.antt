use Rattle.std.proofs.Common.{refl}
use Rattle.tc_packet.proofs.Unlimited.{begun, unlimited-begun}
use Rattle.tc_packet.proofs.reassembler.Reassembler.new.Goals as goal

pub invariant_of-result : goal.invariant_of-result
invariant_of-result c = unlimited-begun c.in_ok-runs.runs c.in_ok-runs.ensures.none c.in_ok-runs.ensures.limits

pub returns : goal.returns
returns c = rw (c.in_ok-runs.ensures.segmented, begun c.in_ok-runs.runs c.in_ok-runs.ensures.none) refl
