use Rattle.tc_edges.proofs.WriteLemmas.Units.{segments-make}
use Rattle.tc_edges.proofs.write.laws.the_segments_of_a_unit_make_the_unit.Goals as goal

pub returns : goal.returns
returns c = segments-make
