use Rattle.std.proofs.lemmas.Result.{on_ok_weaker}
use Rattle.tc_make.proofs.Written.{explained, unexplained}
use Rattle.tc_make.proofs.explained.write_explained.Goals as goal

pub returns-in-Ok : goal.returns-in-Ok
returns-in-Ok g c =
    on_ok_weaker c.write_ended.result (explained c.args.ending c.args.octets.now c.in-Ok.found.frame.now c.in-Ok.found.rest.now _ _ c.in-Ok.ensures.frame) c.write_ended.ensures

pub returns-in-Err : goal.returns-in-Err
returns-in-Err g c =
    on_ok_weaker c.write_refused.result (unexplained c.args.ending c.args.octets.now c.fault_word.result.now c.in-Err.fault _ _ c.in-Err.ensures.fault c.fault_word.ensures)
    c.write_refused.ensures
