use Rattle.tc_station.proofs.Names.{arith}
use Rattle.tc_station.proofs.OwnedDesks.{ids-same, issued-same, length-same}
use Rattle.tc_station.proofs.station.StationOf.into_channels.Goals as goal

pub invariant_of-result : goal.invariant_of-result
invariant_of-result g c =
    let old = c.self.inside.desks in
    let same = c.in-Err.ensures.kept in
    let long = length-same old.items c.in-Err.desks.items same in
    let as-many = c.self.invariant.0 in
    let one = old.ok.0 in let two = c.in-Err.desks.ok.0 in
    (omega (arith, long, as-many, one, two), ids-same c.self.inside.vcids old.items c.in-Err.desks.items c.self.invariant.1 same, issued-same c.self.inside.issued old.items c.in-Err.desks.items c.self.invariant.2 same)
