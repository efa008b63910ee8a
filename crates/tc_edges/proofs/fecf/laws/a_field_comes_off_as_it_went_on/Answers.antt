use Rattle.tc_edges.proofs.FecfLemmas.Closing.{closed}
use Rattle.tc_edges.proofs.FecfLemmas.Plain.{frame_with_field-frame, frame_with_field-passes, frame_with_field-alike}
use Rattle.tc_edges.proofs.fecf.laws.a_field_comes_off_as_it_went_on.Goals as goal

pub returns-clause-passes : goal.returns-clause-passes
returns-clause-passes c = closed

pub returns-clause-frame : goal.returns-clause-frame
returns-clause-frame c = frame_with_field-frame

pub returns-clause-right : goal.returns-clause-right
returns-clause-right c = frame_with_field-passes

pub returns-clause-one : goal.returns-clause-one
returns-clause-one c = frame_with_field-alike
