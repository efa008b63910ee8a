use Rattle.std.proofs.Common.{refl}
use Rattle.tc_edges.specs.Cltu.Randomiser.{octet_on, moved_on, next_bit}
use Rattle.tc_edges.proofs.CltuLemmas.Octets.{bits-are, random-twice, random-zeros}
use Rattle.tc_edges.proofs.cltu.laws.the_random_sequence_comes_off_as_it_went_on.Goals as goal

pub returns-clause-twice : goal.returns-clause-twice
returns-clause-twice c = λ octets. random-twice octets 255

pub returns-clause-zeros : goal.returns-clause-zeros
returns-clause-zeros c = λ n. random-zeros n 255

pub returns-clause-bits : goal.returns-clause-bits
returns-clause-bits c = λ n. bits-are n 255

pub returns-clause-first : goal.returns-clause-first
unfolding octet_on moved_on next_bit
returns-clause-first c = refl
