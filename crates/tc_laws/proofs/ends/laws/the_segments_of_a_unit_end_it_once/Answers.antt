use Rattle.tc_laws.proofs.EndsLemmas.Segmented.{ends-once}
use Rattle.tc_laws.proofs.ends.laws.the_segments_of_a_unit_end_it_once.Goals as goal

pub returns : goal.returns
returns c = ends-once c.the_segments_of_a_unit_make_the_unit.ensures
