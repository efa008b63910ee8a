use Rattle.tc_link.proofs.Entries.{frame-enters, release-enters}
use Rattle.tc_link.proofs.laws.each_arrival_has_an_entry.Goals as goal

pub returns-clause-frame : goal.returns-clause-frame
returns-clause-frame c = frame-enters

pub returns-clause-release : goal.returns-clause-release
returns-clause-release c = release-enters
