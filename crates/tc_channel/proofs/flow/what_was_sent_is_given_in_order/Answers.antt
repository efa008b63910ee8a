use Rattle.tc_channel.proofs.Through.{passed-as-sent, packets-given-of-made, units-given-of-made}
use Rattle.tc_channel.proofs.flow.what_was_sent_is_given_in_order.Goals as goal

pub returns-clause-fields : goal.returns-clause-fields
returns-clause-fields c = passed-as-sent

pub returns-clause-packets : goal.returns-clause-packets
returns-clause-packets c = packets-given-of-made

pub returns-clause-units : goal.returns-clause-units
returns-clause-units c = units-given-of-made
