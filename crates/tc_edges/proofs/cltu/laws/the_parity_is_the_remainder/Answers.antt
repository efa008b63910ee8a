use Rattle.tc_edges.proofs.CltuLemmas.Division.{parity-is-remainder, only-remainder}
use Rattle.tc_edges.proofs.cltu.laws.the_parity_is_the_remainder.Goals as goal

pub returns-clause-remainder : goal.returns-clause-remainder
returns-clause-remainder c = parity-is-remainder

pub returns-clause-only : goal.returns-clause-only
returns-clause-only c = only-remainder
