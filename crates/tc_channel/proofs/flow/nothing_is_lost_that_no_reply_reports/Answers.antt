use Rattle.tc_channel.proofs.Lossless.{packets-admitted, packets-all-given, units-admitted, units-all-given}
use Rattle.tc_channel.proofs.flow.nothing_is_lost_that_no_reply_reports.Goals as goal

pub returns-clause-packets_admitted : goal.returns-clause-packets_admitted
returns-clause-packets_admitted c = packets-admitted

pub returns-clause-packets_given : goal.returns-clause-packets_given
returns-clause-packets_given c = packets-all-given

pub returns-clause-units_admitted : goal.returns-clause-units_admitted
returns-clause-units_admitted c = units-admitted

pub returns-clause-units_given : goal.returns-clause-units_given
returns-clause-units_given c = units-all-given
