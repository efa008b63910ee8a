use Rattle.tc_rack.proofs.Names.{take, All, Appends, IsLawfulHistory, report_text}
use Rattle.tc_rack.proofs.report.write_report.Given as goal

-- the lines of the channels so far are written, and the journals of these channels are lawful
abbrev pub invariant-loop-channel : goal.invariant-loop-channel
invariant-loop-channel g l = record {
  written : Appends (g.W.Write.contents l.fn.writer) (g.W.Write.contents l.writer) (report_text (take l.channel-index l.channels));
  lawful : All IsLawfulHistory (take l.channel-index l.channels);
}
