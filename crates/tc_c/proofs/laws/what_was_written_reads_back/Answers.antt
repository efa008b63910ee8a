use Rattle.std.proofs.Common.{ap, sym, length}
use Rattle.tc_link.specs.declared.frame.Header.{Header}
use Rattle.tc_c.specs.declared.frames.FrameRecord.{FrameRecord}
use Rattle.tc_c.specs.Frame.{header_record}
use Rattle.tc_c.specs.Packet.{written_packet}
use Rattle.tc_c.proofs.laws.what_was_written_reads_back.Goals as goal

pub returns-clause-frame : goal.returns-clause-frame
returns-clause-frame c = λ frame field header is.
    let reported : Header → FrameRecord = λ h. record { status = 0; header = header_record h; length = length frame } in
    ap reported (sym is.header_bits)

pub returns-clause-packet : goal.returns-clause-packet
returns-clause-packet c = λ packet field header is. ap (written_packet (length packet)) is.header_bits
