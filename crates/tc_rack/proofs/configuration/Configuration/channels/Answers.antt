use Rattle.tc_rack.proofs.Configurations.{few}
use Rattle.tc_rack.proofs.configuration.Configuration.channels.Goals as goal

pub returns-clause-few : goal.returns-clause-few
returns-clause-few c = rw (← c.self.view_is) (few c.self.inside.channels.items c.self.invariant.0)
