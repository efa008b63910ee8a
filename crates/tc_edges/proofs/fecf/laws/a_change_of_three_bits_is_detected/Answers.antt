use Rattle.tc_edges.proofs.FecfLemmas.Three.{three-detected}
use Rattle.tc_edges.proofs.fecf.laws.a_change_of_three_bits_is_detected.Goals as goal

pub returns : goal.returns
returns c = three-detected
