use Rattle.std.proofs.Common.{◌≡◌, sym, arith}
use Rattle.tc_edges.proofs.FecfLemmas.Octets.{by_shifts}
use Rattle.tc_edges.proofs.fecf.sum.with_octet.Goals as goal

pub returns : goal.returns
returns c =
    let octet : c.from.result ≡ c.args.octet = grind arith in
    rw octet (sym (by_shifts c.args.sum c.args.octet (omega arith) (omega arith)))
