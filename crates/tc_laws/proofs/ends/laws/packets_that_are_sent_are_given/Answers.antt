use Rattle.tc_laws.proofs.EndsLemmas.Whole.{given-of-sent, none-before}
use Rattle.tc_laws.proofs.ends.laws.packets_that_are_sent_are_given.Goals as goal

pub returns-clause-given : goal.returns-clause-given
returns-clause-given c = λ limits s journal before later x sent apid n units q. given-of-sent limits s journal before sent n c.the_segments_of_a_unit_make_the_unit.ensures later x apid units q

pub returns-clause-start : goal.returns-clause-start
returns-clause-start c = none-before
