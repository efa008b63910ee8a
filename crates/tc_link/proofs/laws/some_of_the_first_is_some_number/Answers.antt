use Rattle.tc_link.proofs.Places.{some-is-number}
use Rattle.tc_link.proofs.laws.some_of_the_first_is_some_number.Goals as goal

pub returns : goal.returns
returns c = some-is-number
