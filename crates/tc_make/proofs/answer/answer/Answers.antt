use Rattle.std.proofs.lemmas.Result.{on_ok_weaker}
use Rattle.tc_make.proofs.Lines.{telemetry-said, explain-said}
use Rattle.tc_make.proofs.answer.answer.Goals as goal

pub returns-in-Telemetry-clause-said : goal.returns-in-Telemetry-clause-said
returns-in-Telemetry-clause-said g c =
    on_ok_weaker c.write_telemetry.result
    (telemetry-said c.args.maker.now c.args.line.now c.in-Telemetry.octets c.as_slice-in-Telemetry.result.now _ _ c.in-Telemetry.is c.as_slice-in-Telemetry.ensures)
    c.write_telemetry.ensures

pub returns-in-Explain-clause-said : goal.returns-in-Explain-clause-said
returns-in-Explain-clause-said g c =
    on_ok_weaker c.write_explained.result
    (explain-said c.args.maker.now c.args.line.now c.in-Explain.octets c.as_slice-in-Explain.result.now _ _ c.in-Explain.is c.as_slice-in-Explain.ensures)
    c.write_explained.ensures
