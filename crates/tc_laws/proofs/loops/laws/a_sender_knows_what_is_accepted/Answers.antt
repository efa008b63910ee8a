use Rattle.tc_laws.proofs.LoopsLemmas.Counted.{known-so}
use Rattle.tc_laws.proofs.loops.laws.a_sender_knows_what_is_accepted.Goals as goal

pub returns : goal.returns
returns c = known-so
