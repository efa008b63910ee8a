use Rattle.tc_apart.proofs.Names.{clcw_within, no_limits, passed_on, refl, run_within, some_of_first}
use Rattle.tc_apart.proofs.Worked.{brings-met, closed-met, course-met, era-met, none-learnt, one-learnt}
use Rattle.tc_apart.proofs.threads.a_course_comes_to_this.Goals as goal

pub returns : goal.returns
unfolding run_within some_of_first passed_on no_limits clcw_within
returns c = record {
  closed = closed-met;
  settings = refl;
  course = course-met;
  came = refl;
  brings = brings-met;
  era = era-met;
  read = refl;
  none_learnt = none-learnt;
  one_learnt = one-learnt;
  session = refl;
  known = refl;
  released = refl;
}
