use Rattle.tc_apart.proofs.Names.{events-came}
use Rattle.tc_apart.proofs.ClosedCourse.{given-at, loop-at, passed-at}
use Rattle.tc_apart.proofs.threads.a_thread_that_brings_all_frames_makes_a_loop.Goals as goal

pub returns-clause-is_loop : goal.returns-clause-is_loop
returns-clause-is_loop c = λ grows station operators closed place channel course came number together out there free k is b o.
    loop-at grows station operators closed place channel course number together out there came k is b free o

pub returns-clause-in_cltus : goal.returns-clause-in_cltus
returns-clause-in_cltus c = λ grows station operators closed place channel course came number end state coming together out there free k unaltered brought b o.
    loop-at grows station operators closed place channel course number together out there came k (events-came end course.loop state _ coming came unaltered brought) b free o

pub returns-clause-passed : goal.returns-clause-passed
returns-clause-passed c = passed-at

pub returns-clause-given : goal.returns-clause-given
returns-clause-given c = given-at c.the_segments_of_a_unit_make_the_unit.ensures
