use Rattle.tc_c.proofs.Records.{read}
use Rattle.tc_c.proofs.laws.a_record_reads_back.Goals as goal

pub returns-clause-farm : goal.returns-clause-farm
returns-clause-farm c = read
