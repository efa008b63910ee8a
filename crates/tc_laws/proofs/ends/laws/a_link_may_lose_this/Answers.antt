use Rattle.tc_laws.proofs.EndsLemmas.Arrived.{cut-lost, idle-lost, refused-lost}
use Rattle.tc_laws.proofs.ends.laws.a_link_may_lose_this.Goals as goal

pub returns-clause-idle : goal.returns-clause-idle
returns-clause-idle c = idle-lost

pub returns-clause-cut : goal.returns-clause-cut
returns-clause-cut c = cut-lost

pub returns-clause-refused : goal.returns-clause-refused
returns-clause-refused c = refused-lost
