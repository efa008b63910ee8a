use Rattle.tc_desk.proofs.Names.{RattleType, IsSend, the_row}
use Rattle.tc_desk.proofs.Sent.{resident_send}

pub send : (V : RattleType) → IsSend (the_row V)
send = resident_send
