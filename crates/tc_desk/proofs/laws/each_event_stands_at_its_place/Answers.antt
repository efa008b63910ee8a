use Rattle.tc_desk.proofs.Places.{stands-in}
use Rattle.tc_desk.proofs.laws.each_event_stands_at_its_place.Goals as goal

pub returns : goal.returns
returns c = stands-in
