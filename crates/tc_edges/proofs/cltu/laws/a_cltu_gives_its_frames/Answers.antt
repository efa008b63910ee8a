use Rattle.tc_edges.proofs.CltuLemmas.Carried.{carried}
use Rattle.tc_edges.proofs.cltu.laws.a_cltu_gives_its_frames.Goals as goal

pub returns : goal.returns
returns c = carried
