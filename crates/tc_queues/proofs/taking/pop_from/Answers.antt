use Rattle.tc_queues.proofs.Names.{sym, boxed_slice_items, rings_in}
use Rattle.tc_queues.proofs.Found.{oldest-none, popped-none}
use Rattle.tc_queues.proofs.taking.pop_from.Goals as goal

pub returns-in-None-clause-waits : goal.returns-in-None-clause-waits
returns-in-None-clause-waits g c = rw (oldest-none c.args.key (rings_in (boxed_slice_items c.args.queues.now)) (rw c.deref.ensures.value at c.in-None.ensures.none)) (λ h. absurd cc, λ h. absurd cc)

pub returns-in-None-clause-rings : goal.returns-in-None-clause-rings
returns-in-None-clause-rings g c = sym (popped-none c.args.key (rings_in (boxed_slice_items c.args.queues.now)) (rw c.deref.ensures.value at c.in-None.ensures.none))
