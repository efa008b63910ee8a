use Rattle.tc_c.proofs.Names.{◌≡◌, Some, take, refl, ap, sym, ◌∙◌, arith, length-take-le, decoded, Step, corrections_of, overruns_of, block-state, block-counted}
use Rattle.tc_edges.specs.Cltu.Reception.{fate_in}
use Rattle.tc_edges.specs.declared.cltu.block.Fate.{Fate}
use Rattle.tc_c.proofs.Receiving.{accepted, accepted-fate, accepted-counts}
use Rattle.tc_c.proofs.decoder.accept_block.Goals as goal

pub returns-clause-state : goal.returns-clause-state
returns-clause-state c =
    let h = c.args.carried in let f = c.args.frame.now in let m = c.args.mode in let os = c.args.octets.now in
    let first = c.in_ok-block.ensures.cases in let right = c.in_ok-fate.right in
    let room = c.requires.room in let fits = c.if-carried.false in
    let is : decoded m (take 8 os) ≡ Some (take 7 right) = sym (ap (decoded m) first.same) ∙ c.in_ok-fate.ensures.carried in
    sym (block-state m 1029 (take h f) (take 8 os) (length-take-le 8 os first.enough)
    ∙ ap (λ (s : Step). s.0) (accepted h f c.carry.new.frame (take 7 right) (decoded m (take 8 os)) (omega arith) (omega arith) is c.carry.ensures.carried))

pub returns-clause-corrected : goal.returns-clause-corrected
returns-clause-corrected c =
    let h = c.args.carried in let f = c.args.frame.now in let m = c.args.mode in let os = c.args.octets.now in
    let first = c.in_ok-block.ensures.cases in let right = c.in_ok-fate.right in
    let room = c.requires.room in let fits = c.if-carried.false in
    let is : decoded m (take 8 os) ≡ Some (take 7 right) = sym (ap (decoded m) first.same) ∙ c.in_ok-fate.ensures.carried in
    let long = length-take-le h f (omega arith) in
    c.corrections.ensures.corrected
    ∙ ap (λ (x : Fate). corrections_of (Some x)) (c.in_ok-fate.ensures.fate ∙ ap (fate_in m) first.same ∙ sym (accepted-fate m (take h f) (take 8 os) (take 7 right) (omega arith) is))
    ∙ block-counted corrections_of m 1029 (take h f) (take 8 os) refl (length-take-le 8 os first.enough)

pub returns-clause-overlong : goal.returns-clause-overlong
returns-clause-overlong c =
    let h = c.args.carried in let f = c.args.frame.now in let m = c.args.mode in let os = c.args.octets.now in
    let first = c.in_ok-block.ensures.cases in let right = c.in_ok-fate.right in
    let room = c.requires.room in let fits = c.if-carried.false in
    let is : decoded m (take 8 os) ≡ Some (take 7 right) = sym (ap (decoded m) first.same) ∙ c.in_ok-fate.ensures.carried in
    let long = length-take-le h f (omega arith) in
    sym (block-counted overruns_of m 1029 (take h f) (take 8 os) refl (length-take-le 8 os first.enough))
    ∙ ap (λ (x : Fate). overruns_of (Some x)) (accepted-fate m (take h f) (take 8 os) (take 7 right) (omega arith) is)
    ∙ (accepted-counts m (take 8 os) (take 7 right) is).1
