use Rattle.tc_edges.proofs.CltuLemmas.Starting.{detects, corrects}
use Rattle.tc_edges.proofs.cltu.decoder.begins.Goals as goal

pub returns-in-Detect : goal.returns-in-Detect
returns-in-Detect c = detects c.args.mode c.wrong_bits-wrong.result c.args.last c.args.octet c.in-Detect.is c.wrong_bits-wrong.ensures

pub returns-in-Correct : goal.returns-in-Correct
returns-in-Correct c = corrects c.args.mode c.wrong_bits-wrong.result c.args.last c.args.octet c.in-Correct.is c.wrong_bits-wrong.ensures
