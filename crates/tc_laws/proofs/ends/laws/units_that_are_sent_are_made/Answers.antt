use Rattle.tc_laws.proofs.EndsLemmas.Chosen.{units-arrive}
use Rattle.tc_laws.proofs.ends.laws.units_that_are_sent_are_made.Goals as goal

pub returns : goal.returns
returns c = units-arrive c.the_segments_of_a_unit_make_the_unit.ensures
