use Rattle.tc_edges.proofs.FecfLemmas.Division.{sum-is-remainder, only-remainder}
use Rattle.tc_edges.proofs.fecf.laws.the_field_is_the_remainder.Goals as goal

pub returns-clause-remainder : goal.returns-clause-remainder
returns-clause-remainder c = sum-is-remainder

pub returns-clause-only : goal.returns-clause-only
returns-clause-only c = only-remainder
