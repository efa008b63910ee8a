use Rattle.tc_link.proofs.Frames.{field-fits, frame-of, only-frame}
use Rattle.tc_link.proofs.laws.each_header_and_field_have_one_frame.Goals as goal

pub returns-clause-some : goal.returns-clause-some
returns-clause-some c = frame-of

pub returns-clause-only : goal.returns-clause-only
returns-clause-only c = only-frame

pub returns-clause-field : goal.returns-clause-field
returns-clause-field c = field-fits
