use Rattle.tc_laws.proofs.EndsLemmas.Made.{packets-arrive}
use Rattle.tc_laws.proofs.ends.laws.packets_that_are_sent_are_made.Goals as goal

pub returns : goal.returns
returns c = packets-arrive c.the_segments_of_a_unit_make_the_unit.ensures
