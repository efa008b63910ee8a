use Rattle.std.proofs.Common.{rules}
use Rattle.tc_cli.proofs.Stations.{new-ordered}
use Rattle.tc_cli.proofs.session.StationBackendBackend.found.Goals as goal

pub new-requires-clause-ordered : goal.new-requires-clause-ordered
new-requires-clause-ordered g c = search (rules, new-ordered)
