use Rattle.tc_fixed.proofs.memory.queue_octets.Goals as goal

pub returns-clause-value : goal.returns-clause-value
returns-clause-value c = cc
