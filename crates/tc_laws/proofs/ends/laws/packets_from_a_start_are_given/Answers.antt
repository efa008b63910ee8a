use Rattle.tc_laws.proofs.EndsLemmas.Started.{packets-of-start}
use Rattle.tc_laws.proofs.ends.laws.packets_from_a_start_are_given.Goals as goal

pub returns : goal.returns
returns c = packets-of-start c.the_segments_of_a_unit_make_the_unit.ensures
