use Rattle.std.proofs.Common.{rules, Err}
use Rattle.std.proofs.KnownBytes.{Keeps-refl}
use Rattle.tc_cli.proofs.Scripts.{read-fault}
use Rattle.tc_cli.proofs.Written.{read-cut-short, whole-cut-short}
use Rattle.tc_cli.proofs.script.run_and_give_back.Goals as goal

pub returns-in_err-script-clause-fault : goal.returns-in_err-script-clause-fault
returns-in_err-script-clause-fault g c = search (rules, read-fault)

pub returns-in_err-script-clause-cut_short : goal.returns-in_err-script-clause-cut_short
returns-in_err-script-clause-cut_short g c = search (rules, read-cut-short)

pub returns-in-Err-clause-cut_short : goal.returns-in-Err-clause-cut_short
returns-in-Err-clause-cut_short g c =
    whole-cut-short (Err _) _ _ _ _ _ _ _ c.as_slice.ensures.value c.in_ok-script.ensures.whole c.in-Err.ensures.cut_short (Keeps-refl _)
