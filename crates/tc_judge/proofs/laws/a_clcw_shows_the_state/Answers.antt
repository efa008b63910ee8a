use Rattle.tc_judge.proofs.Flags.{shown-on, lockout-shown, wait-shown}
use Rattle.tc_judge.proofs.laws.a_clcw_shows_the_state.Goals as goal

pub returns-clause-components : goal.returns-clause-components
returns-clause-components c = shown-on

pub returns-clause-lockout : goal.returns-clause-lockout
returns-clause-lockout c = λ r h. lockout-shown r.state r.lockout r.wait h.state

pub returns-clause-wait : goal.returns-clause-wait
returns-clause-wait c = λ r h. wait-shown r.state r.lockout r.wait h.state
