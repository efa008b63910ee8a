use Rattle.std.proofs.Common.{refl}
unfoldable use Rattle.hex.specs.Hex.{decode_pairs}
use Rattle.tc_lines.specs.Answering.{lines_of}
unfoldable use Rattle.tc_lines.specs.Word.{words}
unfoldable use Rattle.tc_make.specs.Line.{maker_line_of}
use Rattle.tc_make.specs.Making.{new_maker}
use Rattle.tc_apart.proofs.Spelled.{all-said, empty-not-bad}
use Rattle.tc_apart.proofs.making.tcmake_writes_numbered_frames.Goals as goal

pub returns-clause-written : goal.returns-clause-written
returns-clause-written c = λ ending segmented stream units octets before after low asks written.
    (written.1.0, all-said (new_maker ending) written.0 segmented stream units (lines_of octets) written.1.0 low asks written.1.1, written.1.2)

pub returns-clause-none_bad : goal.returns-clause-none_bad
returns-clause-none_bad c = empty-not-bad

pub returns-clause-asked : goal.returns-clause-asked
unfolding maker_line_of words decode_pairs
returns-clause-asked c = (_, _, refl, refl, refl)

pub returns-clause-asked_plainly : goal.returns-clause-asked_plainly
unfolding maker_line_of words decode_pairs
returns-clause-asked_plainly c = (_, _, refl, refl, refl)
