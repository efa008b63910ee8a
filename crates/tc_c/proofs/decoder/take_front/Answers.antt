use Rattle.tc_c.proofs.Names.{ℕ, List, Some, take, ap, sym, ◌∙◌, length-take-le, decoded, Reception, after_block, fate_after, state_after, frames_of, counted_in, block-state, block-frames, block-counted}
use Rattle.tc_c.proofs.Receiving.{begins, block-quiet}
use Rattle.tc_c.proofs.decoder.take_front.Goals as goal

pub returns-in-Some-clause-state : goal.returns-in-Some-clause-state
returns-in-Some-clause-state c =
    let d = c.args.decoder in let f = c.args.frame.now in let m = c.args.mode in let os = c.args.octets.now in
    let first = c.in-Some.ensures.cases in
    c.end_block.ensures.state ∙ ap (λ (b : List ℕ). (after_block 1029 (take d.carried f) (decoded m b)).0) first.same
    ∙ sym (ap (λ (s : Reception). state_after m 1029 s (take 8 os)) (begins d f c.if-decoder-eq1.true c.if-decoder-eq0.true)
    ∙ block-state m 1029 (take d.carried f) (take 8 os) (length-take-le 8 os first.enough))

pub returns-in-Some-clause-given : goal.returns-in-Some-clause-given
returns-in-Some-clause-given c =
    let d = c.args.decoder in let f = c.args.frame.now in let m = c.args.mode in let os = c.args.octets.now in
    let first = c.in-Some.ensures.cases in
    c.end_block.ensures.given ∙ ap (λ (b : List ℕ). (after_block 1029 (take d.carried f) (decoded m b)).1) first.same
    ∙ sym (ap (λ (s : Reception). frames_of m 1029 s (take 8 os)) (begins d f c.if-decoder-eq1.true c.if-decoder-eq0.true)
    ∙ block-frames m 1029 (take d.carried f) (take 8 os) (length-take-le 8 os first.enough))

pub returns-in-Some-clause-before : goal.returns-in-Some-clause-before
returns-in-Some-clause-before c =
    let d = c.args.decoder in let f = c.args.frame.now in let m = c.args.mode in let os = c.args.octets.now in
    ap (λ (s : Reception). frames_of m 1029 s (take 7 os)) (begins d f c.if-decoder-eq1.true c.if-decoder-eq0.true)
    ∙ block-quiet m 1029 (take d.carried f) os c.in-Some.ensures.cases.enough

pub returns-in-Some-clause-fates : goal.returns-in-Some-clause-fates
returns-in-Some-clause-fates c = λ count none.
    let d = c.args.decoder in let f = c.args.frame.now in let m = c.args.mode in let os = c.args.octets.now in
    let first = c.in-Some.ensures.cases in
    ap count (c.end_block.ensures.fate ∙ ap (λ (b : List ℕ). Some (fate_after m 1029 (take d.carried f) b)) first.same)
    ∙ block-counted count m 1029 (take d.carried f) (take 8 os) none (length-take-le 8 os first.enough)
    ∙ sym (ap (λ (s : Reception). counted_in count m 1029 s (take 8 os)) (begins d f c.if-decoder-eq1.true c.if-decoder-eq0.true))
