use Rattle.tc_station.proofs.Names.{None, Some, rules}
use Rattle.tc_station.proofs.VcidTable.{found-there}
use Rattle.tc_station.proofs.vcids.Vcids.place_of.Goals as goal

pub returns-in_err-place-clause-found : goal.returns-in_err-place-clause-found
returns-in_err-place-clause-found c = found-there c.args.self.now c.args.vcid c.from_residual.result (search rules)

pub returns-then-place-eq-NOWHERE-clause-found : goal.returns-then-place-eq-NOWHERE-clause-found
returns-then-place-eq-NOWHERE-clause-found c = found-there c.args.self.now c.args.vcid None (search rules)

pub returns-clause-found : goal.returns-clause-found
returns-clause-found c = found-there c.args.self.now c.args.vcid (Some c.from-2.result) (search rules)
