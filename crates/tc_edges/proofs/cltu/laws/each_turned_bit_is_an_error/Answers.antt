use Rattle.tc_edges.proofs.CltuLemmas.Turned.{one-error, two-errors, three-errors}
use Rattle.tc_edges.proofs.cltu.laws.each_turned_bit_is_an_error.Goals as goal

pub returns-clause-one : goal.returns-clause-one
returns-clause-one c = one-error

pub returns-clause-two : goal.returns-clause-two
returns-clause-two c = two-errors

pub returns-clause-three : goal.returns-clause-three
returns-clause-three c = three-errors
