use Rattle.tc_queues.proofs.queues.deliver_ended.Goals as goal

pub deliver_unit-requires-clause-within : goal.deliver_unit-requires-clause-within
deliver_unit-requires-clause-within g c = rw (← c.unit_of.ensures, c.in-Some.is) at c.requires.within

pub deliver_unit-requires-clause-fits : goal.deliver_unit-requires-clause-fits
deliver_unit-requires-clause-fits g c = rw (← c.unit_of.ensures, c.in-Some.is) at c.requires.fits

pub deliver_unit-requires-clause-units_fit : goal.deliver_unit-requires-clause-units_fit
deliver_unit-requires-clause-units_fit g c = rw (← c.unit_of.ensures, c.in-Some.is) at c.requires.units_fit

pub returns-in-Some-clause-delivered : goal.returns-in-Some-clause-delivered
returns-in-Some-clause-delivered g c = rw (← c.unit_of.ensures, c.in-Some.is) c.deliver_unit.ensures.delivered
