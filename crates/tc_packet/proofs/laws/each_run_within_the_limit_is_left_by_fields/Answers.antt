use Rattle.tc_packet.proofs.Streams.{left-by, open-within, unit-within}
use Rattle.tc_packet.proofs.laws.each_run_within_the_limit_is_left_by_fields.Goals as goal

pub returns-clause-left : goal.returns-clause-left
returns-clause-left c = left-by

pub returns-clause-only : goal.returns-clause-only
returns-clause-only c = open-within

pub returns-clause-units : goal.returns-clause-units
returns-clause-units c = unit-within
