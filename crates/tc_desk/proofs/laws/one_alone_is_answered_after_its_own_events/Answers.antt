use Rattle.tc_desk.proofs.Alone.{alone-event, alone-look, seen-own}
use Rattle.tc_desk.proofs.laws.one_alone_is_answered_after_its_own_events.Goals as goal

pub returns-clause-event : goal.returns-clause-event
returns-clause-event c = alone-event

pub returns-clause-look : goal.returns-clause-look
returns-clause-look c = alone-look

pub returns-clause-seen : goal.returns-clause-seen
returns-clause-seen c = seen-own
