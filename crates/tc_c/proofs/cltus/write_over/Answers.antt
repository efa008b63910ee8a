use Rattle.tc_c.proofs.Names.{◌≡◌, ℕ, List, ◌++◌, take, drop, append_assoc, ap, sym, ◌∙◌, arith, code_block, filled, code_blocks}
use Rattle.tc_c.proofs.Blocks.{cltu-length, first-block}
use Rattle.tc_c.proofs.cltus.write_over.Goals as goal

pub loop-rest-init : goal.loop-rest-init
loop-rest-init c =
    let whole = cltu-length c.args.frame.now in
    let end : c.put_at-at.result ≡ 2 = c.put_at-at.ensures.end in
    let all = c.put_at-at.ensures.all in
    let given = c.requires.all in
    record {
      front = ap (λ (k : ℕ). take k c.put_at-at.new.made ++ code_blocks (filled c.args.frame.now)) end
          ∙ ap (λ (x : List ℕ). x ++ code_blocks (filled c.args.frame.now)) c.put_at-at.ensures.front;
      all = omega arith;
    }

pub loop-rest-preserved : goal.loop-rest-preserved
loop-rest-preserved c =
    let xs = c.loop-rest.rest.now in
    let before = take c.loop-rest.at c.loop-rest.made in
    let test = c.loop-rest-test.true in
    let end = c.put_block-at.ensures.end in let all = c.put_block-at.ensures.all in
    let back_len = c.split_at.ensures.back_len in let held = c.loop-rest.invariant.all in
    record {
      front = ap (λ (k : ℕ). take k c.put_block-at.new.made ++ code_blocks (filled c.split_at.result.1.now)) end
          ∙ ap (λ (x : List ℕ). x ++ code_blocks (filled c.split_at.result.1.now)) c.put_block-at.ensures.front
          ∙ ap (λ (x : List ℕ). (before ++ code_block (filled x)) ++ code_blocks (filled c.split_at.result.1.now)) c.split_at.ensures.front
          ∙ ap (λ (x : List ℕ). (before ++ code_block (filled (take 7 xs))) ++ code_blocks (filled x)) c.split_at.ensures.back
          ∙ append_assoc before (code_block (filled (take 7 xs))) (code_blocks (filled (drop 7 xs)))
          ∙ ap (λ (x : List ℕ). before ++ x) (sym (first-block xs test))
          ∙ c.loop-rest.invariant.front;
      all = omega arith;
    }
