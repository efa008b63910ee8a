use Rattle.std.proofs.Common.{rules}
use Rattle.tc_c.proofs.buffer.tcrx_text_at.Goals as goal

pub returns-in-Some-clause-no_room : goal.returns-in-Some-clause-no_room
returns-in-Some-clause-no_room c = rw (← c.in-Some.ensures) (search rules)
