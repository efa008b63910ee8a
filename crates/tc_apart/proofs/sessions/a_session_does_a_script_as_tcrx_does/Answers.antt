use Rattle.tc_apart.proofs.Scripts.{answers-alike, fault-alike, whole-alike}
use Rattle.tc_apart.proofs.sessions.a_session_does_a_script_as_tcrx_does.Goals as goal

pub returns-clause-answers : goal.returns-clause-answers
returns-clause-answers c = answers-alike

pub returns-clause-written : goal.returns-clause-written
returns-clause-written c = whole-alike

pub returns-clause-fault : goal.returns-clause-fault
returns-clause-fault c = fault-alike
