use Rattle.std.proofs.Common.{◌≡◌, ◌≢◌, ℕ, ◌/◌, ◌<◌, List, [], ◌∷◌, ◌++◌, Some, subst, ap, sym, ◌∙◌, arith}
use Rattle.tc_edges.proofs.CltuLemmas.Names.{Mode, decoded, xor_lt}
use Rattle.tc_edges.proofs.CltuLemmas.Distance.{error}
use Rattle.tc_edges.proofs.CltuLemmas.Numbers.{by-none, by_number, no-number, wrong-number}
use Rattle.tc_edges.proofs.CltuLemmas.Taking.{syndrome, syndrome-is, right_by}
use Rattle.tc_edges.proofs.cltu.block.error_of.Goals as goal

pub bounds-from : goal.bounds-from
bounds-from c =
    let last_fits : c.args.last < 256 = omega arith in
    let s = xor_lt 7 c.parity.result (c.args.last / 2) c.parity.ensures.fits (omega arith) in
    let e = c.from.ensures in omega arith

pub returns-then-syndrome-eq0-clause-taken : goal.returns-then-syndrome-eq0-clause-taken
returns-then-syndrome-eq0-clause-taken c =
    let own = c.args.own.now in let p = c.parity.ensures in
    right_by c.args.mode own c.args.last c.parity.result p.each c.requires (omega arith) p.bits c.if-syndrome-eq0.true
    ∙ ap (λ (x : List ℕ). Some x) (sym (by-none own c.args.last (record { each = p.each; seven = c.requires }) (omega arith)))

pub returns-then-syndrome-eq0-clause-right : goal.returns-then-syndrome-eq0-clause-right
returns-then-syndrome-eq0-clause-right c = λ _ each.
    right_by each c.args.own.now c.args.last c.parity.result c.parity.ensures.each c.requires (omega arith) c.parity.ensures.bits c.if-syndrome-eq0.true

pub returns-then-error-eq0-clause-taken : goal.returns-then-error-eq0-clause-taken
returns-then-error-eq0-clause-taken c =
    let own = c.args.own.now in let last = c.args.last in
    let is = syndrome-is own last c.parity.result c.parity.ensures.bits in
    let small = xor_lt 7 c.parity.result (last / 2) c.parity.ensures.fits (omega arith) in
    ap (λ (m : Mode). decoded m (own ++ last ∷ [])) c.in-Correct.is
    ∙ no-number own last (record { each = c.parity.ensures.each; seven = c.requires }) (omega arith) (subst (λ (x : ℕ). x < 128) is small)
    (λ z. c.if-syndrome-eq0.false (is ∙ z)) (subst (λ (x : ℕ). error x ≡ 0) (c.from.ensures ∙ is) c.if-error-eq0.true)

pub returns-else-error-eq0-clause-taken : goal.returns-else-error-eq0-clause-taken
returns-else-error-eq0-clause-taken c =
    let own = c.args.own.now in let last = c.args.last in
    let is = syndrome-is own last c.parity.result c.parity.ensures.bits in
    let at : c.from.result ≡ syndrome own last = c.from.ensures ∙ is in
    let small = xor_lt 7 c.parity.result (last / 2) c.parity.ensures.fits (omega arith) in
    ap (λ (m : Mode). decoded m (own ++ last ∷ [])) c.in-Correct.is
    ∙ wrong-number own last (record { each = c.parity.ensures.each; seven = c.requires }) (omega arith) (subst (λ (x : ℕ). x < 128) is small)
    (subst (λ (x : ℕ). error x ≢ 0) at c.if-error-eq0.false)
    ∙ ap (λ (x : ℕ). Some (by_number own last (error x))) (sym at)
