use Rattle.std.proofs.Common.{◌≤◌, length, arith}
use Rattle.tc_edges.proofs.WriteLemmas.Headers.{packeted}
use Rattle.tc_edges.proofs.write.packets.packet_front.Goals as goal

pub returns-clause-packet : goal.returns-clause-packet
returns-clause-packet c =
    let field = c.args.field.now in
    let least : 1 ≤ length field = grind arith in
    let header = c.primary_header.ensures in
    packeted c.primary_header.result field c.args.header.now header.six header.header header.version (grind arith) least (grind arith)
