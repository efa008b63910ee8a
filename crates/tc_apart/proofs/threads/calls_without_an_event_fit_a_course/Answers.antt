use Rattle.tc_apart.proofs.Names.{Frame, Release, Take, TakeUnit}
use Rattle.tc_apart.proofs.Calls.{meeting-so, read-so, refused-so}
use Rattle.tc_apart.proofs.threads.calls_without_an_event_fit_a_course.Goals as goal

pub returns : goal.returns
returns c = record {
  read = read-so;
  meeting = meeting-so;
  frames = λ grows place vcid early late octets fault. refused-so place vcid (Frame octets) _ _ early late fault;
  releases = λ place vcid early late fault. refused-so place vcid Release _ _ early late fault;
  takes = λ grows place vcid apid early late fault. refused-so place vcid (Take apid) _ _ early late fault;
  units = λ grows place vcid map_id early late fault. refused-so place vcid (TakeUnit map_id) _ _ early late fault;
}
