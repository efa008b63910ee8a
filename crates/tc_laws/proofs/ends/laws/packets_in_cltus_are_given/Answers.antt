use Rattle.tc_laws.proofs.EndsLemmas.Started.{packets-in-cltus}
use Rattle.tc_laws.proofs.ends.laws.packets_in_cltus_are_given.Goals as goal

pub returns : goal.returns
returns c = packets-in-cltus c.the_segments_of_a_unit_make_the_unit.ensures
