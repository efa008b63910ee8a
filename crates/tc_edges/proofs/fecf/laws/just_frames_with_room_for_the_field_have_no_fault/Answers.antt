use Rattle.tc_edges.proofs.FecfLemmas.Faults.{frame-fault}
use Rattle.tc_edges.proofs.fecf.laws.just_frames_with_room_for_the_field_have_no_fault.Goals as goal

pub returns-clause-frame : goal.returns-clause-frame
returns-clause-frame c = frame-fault
