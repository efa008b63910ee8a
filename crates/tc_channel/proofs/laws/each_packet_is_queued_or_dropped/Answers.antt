use Rattle.tc_channel.proofs.Delivered.{same-apid}
use Rattle.tc_channel.proofs.laws.each_packet_is_queued_or_dropped.Goals as goal

pub returns-clause-apid : goal.returns-clause-apid
returns-clause-apid c = same-apid
