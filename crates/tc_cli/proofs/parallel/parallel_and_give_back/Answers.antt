use Rattle.std.proofs.Common.{rules}
use Rattle.tc_cli.proofs.Scripts.{read-cause, read-fault}
use Rattle.tc_cli.proofs.Written.{parallel-written}
use Rattle.tc_cli.proofs.parallel.parallel_and_give_back.Goals as goal

pub returns-in_err-script-clause-fault : goal.returns-in_err-script-clause-fault
returns-in_err-script-clause-fault g c = search (rules, read-fault)

pub returns-in_err-script-clause-cause : goal.returns-in_err-script-clause-cause
returns-in_err-script-clause-cause g c = search (rules, read-cause)

pub returns-in-Ok-flush-clause-written : goal.returns-in-Ok-flush-clause-written
returns-in-Ok-flush-clause-written g c =
    parallel-written c.the_workers_report_is_that_of_the_lines_in_order.ensures _ c.args.scid _ _ c.in_ok-channels.channels.items _ _ _ _ c.as_slice.ensures.value c.in_ok-script.ensures.whole c.deref.ensures.value c.in_ok-channels.ensures.worked c.in_ok-channels.ensures.ordered c.in_ok-channels.ensures.reported c.in-Ok.ensures.lawful c.in-Ok.ensures.written c.flush.ensures.bytes
