use Rattle.tc_judge.proofs.Silent.{lossier, freer}
use Rattle.tc_judge.proofs.laws.milder_rules_explain_more.Goals as goal

pub returns-clause-lossy : goal.returns-clause-lossy
returns-clause-lossy c = lossier

pub returns-clause-profile : goal.returns-clause-profile
returns-clause-profile c = freer
