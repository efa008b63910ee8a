use Rattle.tc_edges.proofs.FecfLemmas.Changes.{burst-detected}
use Rattle.tc_edges.proofs.fecf.laws.a_burst_of_16_bits_is_detected.Goals as goal

pub returns : goal.returns
returns c = burst-detected
