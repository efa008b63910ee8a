use Rattle.std.proofs.Common.{◌∙◌, refl, subst}
use Rattle.tc_link.specs.declared.farm.Report.{Report}
use Rattle.tc_c_judge.specs.Receivers.{ContinuesFrom}
use Rattle.tc_c_judge.proofs.receivers.go_on.Goals as goal

pub returns-in-Some-clause-taken : goal.returns-in-Some-clause-taken
returns-in-Some-clause-taken c =
    let clcw = c.in-Some.ensures.variant.0 refl in (
      (clcw.0, clcw.1 ∙ c.number.ensures.number),
      subst (λ (r : Report). ContinuesFrom c.args.held.now.judge r c.go_on.new.self) c.in-Some.ensures.report
          (record { allows = c.go_on.ensures.allows; kept = c.go_on.ensures.kept }),
    )
