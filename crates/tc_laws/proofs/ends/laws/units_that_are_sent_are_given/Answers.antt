use Rattle.tc_laws.proofs.EndsLemmas.Whole.{units-of-sent}
use Rattle.tc_laws.proofs.ends.laws.units_that_are_sent_are_given.Goals as goal

pub returns : goal.returns
returns c = λ limits s journal before later x sent n units map_id q. units-of-sent limits s journal before sent n c.the_segments_of_a_unit_make_the_unit.ensures later x units map_id q
