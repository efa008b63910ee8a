use Rattle.tc_edges.proofs.CltuLemmas.Distance.{far}
use Rattle.tc_edges.proofs.cltu.laws.code_blocks_differ_in_four_places.Goals as goal

pub returns : goal.returns
returns c = far
