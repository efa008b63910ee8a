use Rattle.tc_channel.proofs.Acknowledged.{acknowledged}
use Rattle.tc_channel.proofs.flow.a_clcw_reports_how_many_were_accepted.Goals as goal

pub returns : goal.returns
returns c = acknowledged c.a_written_clcw_reads_back.ensures.fields
