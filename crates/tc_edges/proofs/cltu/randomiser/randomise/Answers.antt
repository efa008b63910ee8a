use Rattle.std.proofs.Common.{◌≡◌, ℕ, get_or, ap, ◌∙◌, arith}
use Rattle.tc_edges.proofs.CltuLemmas.Names.{NEXT_OCTETS, octet_on, randomised}
use Rattle.tc_edges.proofs.CltuLemmas.Octets.{next_octet, random-step, random-end}
use Rattle.tc_edges.proofs.cltu.randomiser.randomise.Goals as goal

pub loop-i-preserved : goal.loop-i-preserved
loop-i-preserved c =
    let r = c.loop-i.register in
    let next : get_or NEXT_OCTETS c.from.result 0 ≡ octet_on r = ap (λ (x : ℕ). get_or NEXT_OCTETS x 0) c.from.ensures ∙ next_octet r (omega arith) in
    random-step c.loop-i.octets (randomised c.args.octets.now) c.loop-i.i r (get_or NEXT_OCTETS c.from.result 0) (omega arith) next c.loop-i.invariant

pub returns : goal.returns
returns c = random-end c.loop-i.octets (randomised c.args.octets.now) c.loop-i.i c.loop-i.register (omega arith) c.loop-i.invariant
