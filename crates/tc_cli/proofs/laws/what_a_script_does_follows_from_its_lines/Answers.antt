use Rattle.tc_cli.proofs.Determined.{determined, one-report}
use Rattle.tc_cli.proofs.laws.what_a_script_does_follows_from_its_lines.Goals as goal

pub returns-clause-answers : goal.returns-clause-answers
returns-clause-answers c = determined c.each_input_begins_with_one_frame_at_most.ensures

pub returns-clause-report : goal.returns-clause-report
returns-clause-report c = one-report c.each_input_begins_with_one_frame_at_most.ensures
