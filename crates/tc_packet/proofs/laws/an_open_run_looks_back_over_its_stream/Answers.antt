use Rattle.tc_packet.proofs.Streams.{open-is, is-open}
use Rattle.tc_packet.proofs.laws.an_open_run_looks_back_over_its_stream.Goals as goal

pub returns : goal.returns
returns c = λ fields octets. (open-is fields octets, is-open fields octets)
