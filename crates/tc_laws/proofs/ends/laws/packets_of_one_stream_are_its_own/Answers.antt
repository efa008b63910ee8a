use Rattle.tc_laws.proofs.EndsLemmas.Made.{merged-alone}
use Rattle.tc_laws.proofs.ends.laws.packets_of_one_stream_are_its_own.Goals as goal

pub returns : goal.returns
returns c = merged-alone
