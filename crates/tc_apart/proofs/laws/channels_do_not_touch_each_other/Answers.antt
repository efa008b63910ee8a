use Rattle.tc_apart.proofs.Names.{refl}
use Rattle.tc_apart.proofs.OneChannel.{both-seen}
use Rattle.tc_apart.proofs.laws.channels_do_not_touch_each_other.Goals as goal

pub returns-clause-own : goal.returns-clause-own
returns-clause-own c = λ answer octets reply. (refl, refl, refl, refl, refl)

pub returns-clause-other : goal.returns-clause-other
returns-clause-other c = λ answer octets reply. (refl, refl, refl, refl, refl)

pub returns-clause-answers : goal.returns-clause-answers
returns-clause-answers c = λ vcid one other a after b behind channel apart_a apart_b of_a of_b done_a done_b same. (both-seen c.each_input_begins_with_one_frame_at_most.ensures vcid one other a after b behind channel apart_a apart_b of_a of_b done_a done_b same).0

pub returns-clause-channel : goal.returns-clause-channel
returns-clause-channel c = λ vcid one other a after b behind channel apart_a apart_b of_a of_b done_a done_b same. (both-seen c.each_input_begins_with_one_frame_at_most.ensures vcid one other a after b behind channel apart_a apart_b of_a of_b done_a done_b same).1
