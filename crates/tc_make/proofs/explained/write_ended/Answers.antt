use Rattle.std.proofs.lemmas.Result.{on_ok_weaker}
use Rattle.tc_make.proofs.Written.{field-refused}
use Rattle.tc_make.proofs.explained.write_ended.Goals as goal

pub returns-in-Err : goal.returns-in-Err
returns-in-Err g c =
    rw c.in-ErrorControl.is (on_ok_weaker c.write_field_fault.result (field-refused c.args.frame.now c.args.rest.now c.in-Err.fault _ _ c.in-Err.ensures.refused) c.write_field_fault.ensures)
