use Rattle.tc_laws.proofs.EndsLemmas.Arrived.{events-alike, well-come}
use Rattle.tc_laws.proofs.ends.laws.a_cltu_with_few_wrong_bits_brings_its_frames.Goals as goal

pub returns-clause-arrives : goal.returns-clause-arrives
returns-clause-arrives c = λ end last frames octets is. (well-come end last frames octets is).1

pub returns-clause-searches : goal.returns-clause-searches
returns-clause-searches c = λ end last frames octets is. (well-come end last frames octets is).0

pub returns-clause-alone : goal.returns-clause-alone
returns-clause-alone c = events-alike
