use Rattle.tc_status.proofs.Words.{clcw-flags}
use Rattle.tc_status.proofs.laws.the_flags_of_the_link_have_their_own_bits.Goals as goal

pub returns : goal.returns
returns c = clcw-flags
