use Rattle.std.proofs.Common.{◌≡◌, ℕ, ◌*◌, ◌%◌, List, [], ◌∷◌, ◌++◌, length, ap, sym, ◌∙◌, arith}
use Rattle.tc_edges.proofs.CltuLemmas.Taking.{seven-list}
use Rattle.tc_edges.proofs.cltu.block.encode_block.Goals as goal

pub returns : goal.returns
returns c =
    let xs = c.args.information in
    let long : length xs ≡ 7 = omega arith in
    let p = c.parity.ensures.fits in
    let twice : c.parity.result * 2 % 256 ≡ c.parity.result * 2 = omega arith in
    ap (λ (x : List ℕ). x ++ c.parity.result * 2 % 256 ∷ []) (sym (seven-list xs long))
    ∙ ap (λ (x : ℕ). xs ++ x ∷ []) (twice ∙ ap (λ (x : ℕ). x * 2) c.parity.ensures.bits)
