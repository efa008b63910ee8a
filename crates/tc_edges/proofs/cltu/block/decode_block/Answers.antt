use Rattle.std.proofs.Common.{◌≡◌, List, ℕ, Option, Some, None, length, take, ap, sym, ◌∙◌, arith}
use Rattle.tc_edges.proofs.CltuLemmas.Numbers.{seven_of, seven-first}
use Rattle.tc_edges.proofs.CltuLemmas.Taking.{found-option, taken-option, refused-option}
use Rattle.tc_edges.proofs.cltu.block.decode_block.Goals as goal

-- the code returns the octets one by one, and they are the first seven of the accepted block
carried : (right : List ℕ) (o : Option (List ℕ)) → length right ≡ 8 → o ≡ Some (take 7 right) → Some (seven_of right) ≡ o
carried right o long is = ap Some (seven-first right long) ∙ sym is

pub returns-in_err-right-clause-taken : goal.returns-in_err-right-clause-taken
returns-in_err-right-clause-taken c = λ information is within.
    let p = c.accept.ensures.parts in
    c.from_residual.ensures ∙ taken-option c.args.mode c.args.block p.0 p.1 None p.2 p.3 (sym c.in_err-right.ensures.carried) information is within

pub returns-clause-found : goal.returns-clause-found
returns-clause-found c =
    let p = c.accept.ensures.parts in let right = c.in_ok-right.right in
    found-option c.args.mode c.args.block p.0 p.1 (Some (seven_of right)) p.2 p.3 (carried right _ (grind arith) c.in_ok-right.ensures.carried)

pub returns-clause-taken : goal.returns-clause-taken
returns-clause-taken c =
    let p = c.accept.ensures.parts in let right = c.in_ok-right.right in
    taken-option c.args.mode c.args.block p.0 p.1 (Some (seven_of right)) p.2 p.3 (carried right _ (grind arith) c.in_ok-right.ensures.carried)

pub returns-clause-refused : goal.returns-clause-refused
returns-clause-refused c =
    let p = c.accept.ensures.parts in let right = c.in_ok-right.right in
    refused-option c.args.mode c.args.block p.0 p.1 (Some (seven_of right)) p.2 p.3 (carried right _ (grind arith) c.in_ok-right.ensures.carried)
