use Rattle.tc_edges.proofs.TmLemmas.Frames.{written-length, read-back, fields-back}
use Rattle.tc_edges.proofs.tm.laws.a_written_frame_reads_back.Goals as goal

pub returns-clause-long : goal.returns-clause-long
returns-clause-long c = written-length

pub returns-clause-read : goal.returns-clause-read
returns-clause-read c = read-back

pub returns-clause-fields : goal.returns-clause-fields
returns-clause-fields c = fields-back
