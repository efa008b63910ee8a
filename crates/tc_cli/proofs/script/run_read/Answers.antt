use Rattle.std.proofs.Common.{Some, refl}
use Rattle.tc_cli.proofs.Written.{whole-written, whole-cut-short}
use Rattle.tc_cli.proofs.script.run_read.Goals as goal

pub returns-in-Ok-clause-written : goal.returns-in-Ok-clause-written
returns-in-Ok-clause-written g c =
    whole-written _ (Some c.args.script.now) _ _ _ _ _ _ refl refl c.run_lines-done.ensures.written c.flush.ensures.bytes

pub returns-in-Ok-clause-cut_short : goal.returns-in-Ok-clause-cut_short
returns-in-Ok-clause-cut_short g c =
    whole-cut-short _ (Some c.args.script.now) _ _ _ _ _ _ refl refl c.run_lines-done.ensures.cut_short c.flush.ensures.bytes
