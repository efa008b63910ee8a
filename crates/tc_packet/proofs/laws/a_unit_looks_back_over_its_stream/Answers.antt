use Rattle.tc_packet.proofs.Streams.{unit-is, is-unit}
use Rattle.tc_packet.proofs.laws.a_unit_looks_back_over_its_stream.Goals as goal

pub returns : goal.returns
returns c = λ fields field octets. (unit-is fields field octets, is-unit fields field octets)
