use Rattle.std.proofs.Common.{◌≡◌, ◌/◌, ◌%◌, bit_xor, sym, arith}
use Rattle.tc_edges.proofs.FecfLemmas.Octets.{four-tables}
use Rattle.tc_edges.proofs.fecf.sum.with_four.Goals as goal

pub returns : goal.returns
returns c =
    let a : c.from.result ≡ bit_xor (c.args.sum / 256) c.args.a = grind arith in
    let b : c.from-2.result ≡ bit_xor (c.args.sum % 256) c.args.b = grind arith in
    let e : c.from-3.result ≡ c.args.c = grind arith in
    let f : c.from-4.result ≡ c.args.d = grind arith in
    rw a rw b rw e rw f (sym (four-tables c.args.sum c.args.a c.args.b c.args.c c.args.d (omega arith) (omega arith) (omega arith) (omega arith) (omega arith)))
