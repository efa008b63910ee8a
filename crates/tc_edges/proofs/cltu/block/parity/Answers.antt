use Rattle.std.proofs.Common.{arith}
use Rattle.tc_edges.proofs.CltuLemmas.Names.{bits_of, block_remainder, xor_comm, xor_lt}
use Rattle.tc_edges.proofs.CltuLemmas.Division.{remainder-fits}
use Rattle.tc_edges.proofs.CltuLemmas.Octets.{seven-left}
use Rattle.tc_edges.proofs.cltu.block.parity.Goals as goal

pub returns-clause-bits : goal.returns-clause-bits
returns-clause-bits c =
    let os = c.args.octets.now in
    rw (c.from.ensures, c.from-2.ensures, c.from-3.ensures, c.from-4.ensures, c.from-5.ensures, c.from-6.ensures, c.from-7.ensures, seven-left os c.requires (λ i. omega (arith, c.type_inv.octets i)))
    (xor_comm (block_remainder 0 (bits_of os)) 127)

pub returns-clause-fits : goal.returns-clause-fits
returns-clause-fits c =
    let os = c.args.octets.now in
    rw (c.from.ensures, c.from-2.ensures, c.from-3.ensures, c.from-4.ensures, c.from-5.ensures, c.from-6.ensures, c.from-7.ensures, seven-left os c.requires (λ i. omega (arith, c.type_inv.octets i)))
    (xor_lt 7 (block_remainder 0 (bits_of os)) 127 (remainder-fits (bits_of os) 0 (omega arith)) (omega arith))

pub returns-clause-each : goal.returns-clause-each
returns-clause-each c = λ i. omega (arith, c.type_inv.octets i)
