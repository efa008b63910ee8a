use Rattle.tc_rack.proofs.Places.{made-apart}
use Rattle.tc_rack.proofs.rack.Rack.new.Goals as goal

pub invariant_of-result : goal.invariant_of-result
invariant_of-result c = rw c.in_ok-channels.ensures (made-apart _ c.into_channels.ensures.configuration.distinct)
