use Rattle.std.proofs.Common.{◌∙◌, ap, subst}
use Rattle.tc_link.specs.declared.farm.Report.{Report}
use Rattle.tc_c_judge.specs.Receivers.{IsVerdict}
use Rattle.tc_c_judge.specs.Records.{judged}
use Rattle.tc_c_judge.proofs.receivers.heard.Goals as goal

pub returns-in-Some-clause-heard : goal.returns-in-Some-clause-heard
returns-in-Some-clause-heard c = λ item.
    let verdict = c.heard.ensures in (
      c.heard.result,
      c.judged.ensures ∙ ap judged c.number-in-Some.ensures,
      subst (λ (r : Report). IsVerdict c.args.held.now.judge r c.heard.new.self c.heard.result) c.in-Some.ensures.report
          (record {
            unknown = verdict.unknown;
            possible = verdict.possible;
            explained = verdict.explained;
            impossible = verdict.impossible;
            unchanged = verdict.unchanged;
            kept = verdict.kept;
          }),
    )
