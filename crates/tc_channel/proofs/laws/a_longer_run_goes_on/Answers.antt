use Rattle.tc_channel.proofs.Growth.{run-grows}
use Rattle.tc_channel.proofs.laws.a_longer_run_goes_on.Goals as goal

pub returns-clause-grows : goal.returns-clause-grows
returns-clause-grows c = run-grows
