use Rattle.tc_channel.proofs.Names.{no_limits, run_within}
use Rattle.tc_channel.specs.Run.{run}
use Rattle.tc_channel.proofs.Plain.{run-limit}
use Rattle.tc_channel.proofs.Limits.{limited-unit, unlimited-unit}
use Rattle.tc_channel.proofs.laws.a_unit_beyond_the_limit_of_its_map_is_none.Goals as goal

pub returns-clause-within : goal.returns-clause-within
returns-clause-within c = λ limits s journal service field octets. limited-unit limits (run_within limits s journal) service field octets (run-limit limits s journal)

pub returns-clause-without : goal.returns-clause-without
returns-clause-without c = λ s journal service field. unlimited-unit (run s journal) service field (run-limit no_limits s journal)
