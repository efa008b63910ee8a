use Rattle.tc_queues.proofs.Names.{sym, boxed_slice_items, rings_in}
use Rattle.tc_queues.proofs.Found.{oldest-none, popped-none}
use Rattle.tc_queues.proofs.taking.take_from.Goals as goal

pub returns-in-None-clause-item : goal.returns-in-None-clause-item
returns-in-None-clause-item g c = sym (oldest-none c.args.key (rings_in (boxed_slice_items c.args.queues.now)) (rw c.deref.ensures.value at c.in-None.ensures.none))

pub returns-in-None-clause-rings : goal.returns-in-None-clause-rings
returns-in-None-clause-rings g c = sym (popped-none c.args.key (rings_in (boxed_slice_items c.args.queues.now)) (rw c.deref.ensures.value at c.in-None.ensures.none))
