use Rattle.tc_edges.proofs.FecfLemmas.Changes.{two-detected}
use Rattle.tc_edges.proofs.fecf.laws.a_change_of_two_bits_is_detected.Goals as goal

pub returns : goal.returns
returns c = two-detected
