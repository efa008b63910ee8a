-- A badge can't be read through a `&`. Such a `&` has only a part of the resources that the badge owns, and this part
-- may go to another thread.
use Rattle.tc_desk.proofs.Names.{RattleType, IsSync, part_keyless, the_row}
use Rattle.tc_desk.proofs.Sent.{resident_send}

pub sync : (V : RattleType) → IsSync (the_row V)
sync V = record { shared = λ d b o ν q. part_keyless (the_row V) (resident_send V) q d b o }
