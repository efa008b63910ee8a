use Rattle.std.proofs.Common.{◌∙◌, sym}
use Rattle.tc_edges.proofs.FecfLemmas.Delimiting.{one-frame, only-frames}
use Rattle.tc_edges.proofs.fecf.laws.each_candidate_is_delimited_in_one_way.Goals as goal

pub returns-clause-one : goal.returns-clause-one
returns-clause-one c octets frame other rest behind one two = one-frame frame other rest behind one.whole two.whole (sym one.parts ∙ two.parts)

pub returns-clause-only : goal.returns-clause-only
returns-clause-only c = only-frames
