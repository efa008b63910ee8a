use Rattle.std.proofs.Common.{◌≤◌, length, arith, rules}
use Rattle.tc_link.proofs.Frames.{framed, octets-append}
use Rattle.tc_link.proofs.writing.written_header.Goals as goal

pub returns-clause-frame : goal.returns-clause-frame
returns-clause-frame c =
    let field = c.args.field.now in
    let least : 1 ≤ length field = grind arith in
    let header = c.primary_header.ensures in
    framed c.primary_header.result field c.args.header.now header.five header.header header.version header.spare (omega arith) least (omega arith)
    (octets-append c.primary_header.result field header.octets (λ i. search (rules, c.type_inv.field i)))
