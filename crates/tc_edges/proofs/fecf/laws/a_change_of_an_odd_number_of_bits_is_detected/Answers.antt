use Rattle.tc_edges.proofs.FecfLemmas.Ones.{odd-detected}
use Rattle.tc_edges.proofs.fecf.laws.a_change_of_an_odd_number_of_bits_is_detected.Goals as goal

pub returns : goal.returns
returns c = odd-detected
