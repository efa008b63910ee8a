use Rattle.std.proofs.Common.{◌≡◌, ◌+◌, ◌-◌, ◌*◌, ◌≤◌, ◌++◌, length, get_or, drop, take, arith}
use Rattle.tc_edges.specs.Fecf.Checksum.{checksum_of}
use Rattle.tc_edges.proofs.FecfLemmas.Plain.{head, plain-right, plain-whole}
use Rattle.tc_edges.proofs.fecf.frames.without_field.Goals as goal

pub returns-clause-frame : goal.returns-clause-frame
returns-clause-frame c =
    let f = c.args.octets.now in
    let items : c.extend_from_slice-2.new.self.items ≡ head f (get_or f 2 0 * 256 + get_or f 3 0 - 2) ++ take (length f - 2 - 4) (drop 4 f) = grind arith in
    let none : checksum_of f ≡ 0 = grind arith in
    let least : 8 ≤ length f = grind arith in
    plain-right f c.extend_from_slice-2.new.self.items c.in_ok-whole_frame.ensures.whole least none items

pub returns-clause-whole : goal.returns-clause-whole
returns-clause-whole c =
    let f = c.args.octets.now in
    let items : c.extend_from_slice-2.new.self.items ≡ head f (get_or f 2 0 * 256 + get_or f 3 0 - 2) ++ take (length f - 2 - 4) (drop 4 f) = grind arith in
    let least : 8 ≤ length f = grind arith in
    plain-whole f c.extend_from_slice-2.new.self.items c.in_ok-whole_frame.ensures.whole least items
