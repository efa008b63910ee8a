use Rattle.std.proofs.Common.{◌≡◌, ℕ, List, ◌++◌, take, drop, append_assoc, ap, sym, ◌∙◌, arith}
use Rattle.tc_edges.proofs.CltuLemmas.Names.{code_block, code_blocks, filled}
use Rattle.tc_edges.proofs.CltuLemmas.Fill.{first-block}
use Rattle.tc_edges.proofs.cltu.writer.coded.Goals as goal

pub loop-rest-preserved : goal.loop-rest-preserved
loop-rest-preserved c =
    let xs = c.loop-rest.rest.now in let u = c.loop-rest.made.items in
    let pushed : c.push_block.new.made.items ≡ u ++ code_block (take 7 xs) = c.push_block.ensures.items ∙ ap (λ (x : List ℕ). u ++ code_block x) c.split_at.ensures.front in
    let len = c.push_block.ensures.len in let capacity = c.push_block.ensures.capacity in
    let back = c.split_at.ensures.back_len in let more = c.loop-rest-test.true in let room = c.loop-rest.invariant.room in
    record {
      items = ap (λ (x : List ℕ). x ++ code_blocks (filled c.split_at.result.1.now)) pushed
          ∙ ap (λ (x : List ℕ). u ++ code_block (take 7 xs) ++ code_blocks (filled x)) c.split_at.ensures.back
          ∙ append_assoc u (code_block (take 7 xs)) (code_blocks (filled (drop 7 xs)))
          ∙ ap (λ (x : List ℕ). u ++ x) (sym (first-block xs c.loop-rest-test.true))
          ∙ c.loop-rest.invariant.items;
      room = omega arith;
    }
