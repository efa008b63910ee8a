use Rattle.std.proofs.Common.{◌≡◌, [], ap, sym, ◌∙◌, arith, rules}
use Rattle.std.proofs.lemmas.Grind.{common_steps}
use Rattle.tc_edges.specs.Cltu.Reception.{Reception, Decoding, state_after, frames_of}
use Rattle.tc_edges.proofs.CltuLemmas.Decoding.{block-state, block-frames}
use Rattle.tc_edges.proofs.cltu.decoder.Decoder.feed_block.Goals as goal

pub returns-clause-state : goal.returns-clause-state
returns-clause-state c =
    let now = c.args.self.now in let b = c.args.block.now in
    let begins : now.state ≡ Decoding now.carried [] = first_of (search rules, grind (arith, common_steps)) in
    c.end_block.ensures.state ∙ sym (ap (λ (s : Reception). state_after now.mode 1029 s b) begins ∙ block-state now.mode 1029 now.carried b (omega arith))

pub returns-clause-given : goal.returns-clause-given
returns-clause-given c =
    let now = c.args.self.now in let b = c.args.block.now in
    let begins : now.state ≡ Decoding now.carried [] = first_of (search rules, grind (arith, common_steps)) in
    c.end_block.ensures.given ∙ sym (ap (λ (s : Reception). frames_of now.mode 1029 s b) begins ∙ block-frames now.mode 1029 now.carried b (omega arith))
